-- Lemmas about a driver's life, call by call.
use Rattle.std.proofs.Common.{◌≡◌, ℕ, List, Option, ap, ◌∙◌, subst}
use Rattle.pmd_access.specs.NicDevice.DmaArena.Numbers.{Numbers}
use Rattle.pmd_access.specs.DeviceLock.declared.entry.Call.{Call}
use Rattle.pmd_access.specs.declared.fault.PmdFault.{PmdFault}
use Rattle.pmd_access.specs.Named.{AtPort}
use Rattle.pmd_driver.specs.Driver.{Driver, accepted_of, handed_of, halted_of}
use Rattle.pmd_driver.specs.Life.{RunsOn, IsStopped, HasLived}
use Rattle.pmd_driver.specs.Started.{HasStarted, left_accepted, left_handed}
use Rattle.pmd_driver.specs.declared.driver.Rings.{Rings}
use Rattle.pmd_driver.specs.declared.driver.Rings.TheVariants.{Up, Down}
use Rattle.pmd_driver.specs.declared.start.Rest.{Rest}
use Rattle.pmd_driver.proofs.Both.{rings_still, rings_on}

-- `RunsOn` holds if no call was made.
pub runs_still : (made : List Call) (rings : Rings) → RunsOn made rings made rings
runs_still made (Up r) = rings_still made r
runs_still made (Down h) = tt

-- If `RunsOn` holds for each of two sequences of calls, it holds for one followed by the other.
pub runs_on : (old mid new : List Call) (first then last : Rings) → RunsOn old first mid then
    → RunsOn mid then new last → RunsOn old first new last
runs_on old mid new (Up r) (Up s) (Up t) one two =
    rings_on old mid new r s t one two
runs_on old mid new (Up r) (Up s) (Down h) one two = absurd two
runs_on old mid new (Up r) (Down h) last one two = absurd one
runs_on old mid new (Down h) then last one two = tt

-- A driver that started, ran and was stopped has lived (`HasLived`).

lived_up : (q : AtPort) (size frame : ℕ) (old : List Call) (a : Numbers) (made mid new : List Call) (p : Driver)
    (rings : Rings) (left : Rest) (late : Option PmdFault) → HasStarted q size frame old a made p
    → RunsOn made p.rings mid rings → IsStopped q mid (halted_of rings) new left late
    → left_handed left ≡ handed_of rings → left_accepted left ≡ accepted_of rings
    → HasLived q size frame old a new left late
lived_up q size frame old a made mid new p (Up s) left late (r, is, up) runs stopped handed accepted = record {
  made = mid;
  last = s;
  lives = record {
    made = made;
    fresh = r;
    up = up;
    drives = subst (λ (d : Driver). RunsOn made d.rings mid (Up s)) is runs;
  };
  stopped = stopped;
  handed = handed;
  accepted = accepted;
}
lived_up q size frame old a made mid new p (Down h) left late (r, is, up) runs stopped handed accepted =
    absurd (subst (λ (d : Driver). RunsOn made d.rings mid (Down h)) is runs)

pub has_lived : (q : AtPort) (size frame : ℕ) (old : List Call) (a : Numbers) (made mid new : List Call) (p d : Driver)
    (left : Rest) (late : Option PmdFault) → HasStarted q size frame old a made p → RunsOn made p.rings mid d.rings
    → d.queue ≡ p.queue → IsStopped d.queue mid (halted_of d.rings) new left late
    → left_handed left ≡ handed_of d.rings → left_accepted left ≡ accepted_of d.rings
    → HasLived q size frame old a new left late
has_lived q size frame old a made mid new p d left late (r, is, up) runs same stopped handed accepted =
    lived_up q size frame old a made mid new p d.rings left late (r, is, up) runs
    (subst (λ (x : AtPort). IsStopped x mid (halted_of d.rings) new left late)
    (same ∙ ap (λ (x : Driver). x.queue) is) stopped)
    handed accepted
