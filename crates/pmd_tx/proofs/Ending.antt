-- Proves that a record of a call's failure also holds together with the calls made before that call.
use Rattle.std.proofs.Common.{◌≡◌, ℕ, List, Result, Ok, Err, IfErr, ◌∙◌}
use Rattle.pmd_access.specs.DeviceLock.declared.entry.Call.{Call}
use Rattle.pmd_access.specs.declared.fault.PmdFault.{PmdFault}
use Rattle.pmd_access.specs.declared.fault.PmdFault.TheVariants as fault
use Rattle.pmd_tx.specs.Plays.{Plays, PlaysWith, FaultsBy, LooksLast}
use Rattle.pmd_tx.specs.Sending.{Sender}
use Rattle.pmd_tx.proofs.Playing.{all_both, faults_after, asks_after}

pub by_after : (f : PmdFault) (blocks : List ℕ) (a b d : List Call) (v w : Sender) → PlaysWith blocks a v b w
    → FaultsBy f blocks b w d → FaultsBy f blocks a v d
by_after fault.DeviceFault blocks a b d v w plays f = faults_after blocks a b d v w plays f
by_after (fault.Call refusal) blocks a b d v w plays f = asks_after blocks a b d v w plays f
by_after other blocks a b d v w plays f = tt

pub looks_after : (a b d : List Call) (v w x : Sender) → Plays a v b w → w.accepted ≡ v.accepted → LooksLast b w d x
    → LooksLast a v d x
looks_after a b d v w x plays same l = record {
  mid = l.mid;
  before = l.before;
  bytes = l.bytes;
  plays = all_both a b l.mid v w l.before plays l.plays;
  looks = l.looks;
  waits = l.waits;
  posted = l.posted;
  accepted = l.accepted ∙ same;
  left = l.left;
}

-- A failure after earlier calls, given a result.
pub after_all : {R E : Type 0} → (which : E → PmdFault) (r : Result R E) (blocks : List ℕ) (a b d : List Call)
    (v w : Sender) → PlaysWith blocks a v b w → IfErr r (λ e. FaultsBy (which e) blocks b w d)
    → IfErr r (λ e. FaultsBy (which e) blocks a v d)
after_all which (Ok x) blocks a b d v w plays f = tt
after_all which (Err e) blocks a b d v w plays f = by_after (which e) blocks a b d v w plays f
