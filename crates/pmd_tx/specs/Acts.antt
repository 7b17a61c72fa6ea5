-- The effect of one driver call that sends, as one record: the device calls that it made, and the ring before and
-- after.
use Rattle.std.specs.Prelude.{◌≡◌, ℕ, List, length, Bool, if◌then◌else◌, Option, Some, None, Result, Ok, Err, IfSome, IfNone, IfErr}
use Rattle.pmd_access.specs.NicDevice.DmaArena.Numbers.{Numbers}
use Rattle.pmd_access.specs.DeviceLock.declared.entry.Call.{Call}
use Rattle.pmd_access.specs.Home.{AreOut}
use Rattle.pmd_access.specs.declared.fault.PmdFault.{PmdFault}
use Rattle.pmd_access.specs.declared.packet.Packet.{Packet}
use Rattle.pmd_tx.specs.declared.answer.TxAnswer.{TxAnswer}
use Rattle.pmd_tx.specs.declared.answer.TxAnswer.TheVariants.{Taken}
use Rattle.pmd_tx.specs.declared.answer.TxFault.{TxFault}
use Rattle.pmd_tx.specs.Plays.{FaultsBy, PlaysWith}
use Rattle.pmd_tx.specs.Sending.{Sender, blocks_of}
use Rattle.pmd_tx.specs.Sends.{outgoing_of, returned, Frees, IsAccepted, IsBack, IsLate, IsNoneAccepted, IsTried, SendsHome}

-- The fault that ended a call, if any.
abbrev pub failed_in : {A : Type 0} → Result A TxFault → Option PmdFault
failed_in (Ok x) = None
failed_in (Err f) = Some f.fault

-- The device calls that were made, some of them the driver's own, take the driver from ring `v` to ring `w`. Each
-- packet that they accept is in the blocks with these numbers. If a fault is reported, its cause is the reply to the
-- last of these calls, or the refusal of a further call.
pub record Acts (blocks : List ℕ) (f : Option PmdFault) (old : List Call) (v : Sender) (new : List Call) (w : Sender)
    : Type 0 where
  pub plays : PlaysWith blocks old v new w
  pub late : IfSome f (λ f. IsLate f)
  pub faults : IfSome f (λ f. FaultsBy f blocks old v new)

-- Calls that accept no packet and reap none have these effects for any blocks.
pub record Continues (f : Option PmdFault) (old : List Call) (v : Sender) (new : List Call) (w : Sender) : Type 0 where
  pub acts : (blocks : List ℕ) → Acts blocks f old v new w
  pub kept : IsNoneAccepted v w
  pub layout : w.layout ≡ v.layout

-- The oldest `parts` segments, of which `packets` end a packet, were reaped. Their blocks are free in the arena. The
-- tail has passed all remaining segments.
pub record HasReaped (f : Option PmdFault) (old : List Call) (v : Sender) (a : Numbers) (new : List Call) (w : Sender)
    (b : Numbers) (parts packets : ℕ) : Type 0 where
  pub acts : (blocks : List ℕ) → Acts blocks f old v new w
  pub frees : Frees v w a b parts packets
  pub settled : w.posted ≡ length w.outstanding
  pub out : AreOut b (blocks_of w.outstanding)
  pub accepted : w.accepted ≡ v.accepted
  pub layout : w.layout ≡ record v.layout { next = w.layout.next }

-- `parts_reaped`: the number of segments reaped. `packets_reaped`: the number of packets reaped. Both follow from the
-- result, which says whether a segment was reaped and whether that segment ends its packet.

abbrev pub parts_reaped : Result (Option Bool) PmdFault → ℕ
parts_reaped (Ok (Some end)) = 1
parts_reaped (Ok None) = 0
parts_reaped (Err f) = 0

abbrev pub packets_reaped : Result (Option Bool) PmdFault → ℕ
packets_reaped (Ok (Some end)) = if end then 1 else 0
packets_reaped (Ok None) = 0
packets_reaped (Err f) = 0

-- A packet that passed the check was queued, or is returned.
pub record Queues (r : Result TxAnswer TxFault) (p : Packet) (old : List Call) (v : Sender) (a : Numbers)
    (new : List Call) (w : Sender) (b : Numbers) : Type 0 where
  pub plays : PlaysWith (outgoing_of p).blocks old v new w
  pub tried : IsTried r
  pub accepted : IfNone (returned r) (IsAccepted v p w)
  pub kept : IfSome (returned r) (λ back. IsNoneAccepted v w)
  pub freed : SendsHome (returned r) p a b
  pub back : IfErr r (λ failed. IfSome failed.packet (λ back. IsBack failed.fault p back))
  pub asked : r ≡ Ok Taken → w.poked ≡ length w.outstanding
  pub tail : w.posted ≡ v.posted
  pub faults : IfErr r (λ failed. FaultsBy failed.fault (outgoing_of p).blocks old v new)
  pub layout : w.layout ≡ v.layout
