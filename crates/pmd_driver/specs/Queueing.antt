-- The effect of each step in a burst as one record, given the calls made and the driver before and after the step.
use Rattle.std.specs.Prelude.{ℕ, ◌≡◌, ◌+◌, ◌≤◌, ◌++◌, ◌∷◌, [], length, true, is_some, Bool, List, Option, Some, None, Result, IfSome}
use Rattle.pmd_access.specs.NicDevice.DmaArena.Numbers.{is_own}
use Rattle.pmd_access.specs.DeviceLock.declared.entry.Call.{Call}
use Rattle.pmd_access.specs.declared.fault.PmdFault.{PmdFault}
use Rattle.pmd_access.specs.declared.packet.Packet.{Packet}
use Rattle.pmd_rx.specs.Keeping.{numbers_of_all}
use Rattle.pmd_tx.specs.Acts.{failed_in}
use Rattle.pmd_tx.specs.Sends.{IsLate, returned}
use Rattle.pmd_tx.specs.declared.answer.TxAnswer.{TxAnswer}
use Rattle.pmd_tx.specs.declared.answer.TxFault.{TxFault}
use Rattle.pmd_driver.specs.Apart.{DrivesRings, FindsBy}
use Rattle.pmd_driver.specs.Blocks.{KeepsUp}
use Rattle.pmd_driver.specs.Bursts.{Accepts, AreLeft, FailsDuring, IsRefusedFirst, MakesRoom, SendsBurst, Stops, vacant_in}
use Rattle.pmd_driver.specs.Halves.{halves_of}
use Rattle.pmd_driver.specs.Running.{Running}

-- `sent` packets were queued. The last queued packet, or the first packet that wasn't queued, met the fault `met`, if
-- any.
pub record Queues (given left : List Packet) (sent : ℕ) (met : Option PmdFault) (old : List Call) (r : Running)
    (new : List Call) (s : Running) : Type 0 where
  pub gone : List Packet
  pub waiting : List Packet
  pub given_are : given ≡ gone ++ waiting
  pub count : sent ≡ length gone
  pub accepts : Accepts gone r s
  pub left_are : AreLeft met waiting left
  pub during : IfSome met (λ f. FailsDuring f (is_own r.arena) old (halves_of r) new)
  pub drives : DrivesRings old r new s
  pub keeps : KeepsUp r (numbers_of_all given) s (numbers_of_all left)
  -- The tail isn't moved.
  pub tail : s.transmit.posted ≡ r.transmit.posted
  -- Each packet takes at least one slot.
  pub slots : sent + vacant_in s.transmit ≤ vacant_in r.transmit
  -- If the first packet is refused before any event, no call was made and nothing changed.
  pub shut : (f : PmdFault) → IsRefusedFirst f r given
      → (sent ≡ 0) × IfSome met (λ g. g ≡ f) × (left ≡ given) × (new ≡ old) × (s ≡ r)

-- A step of a burst with the effect `Queues`; if the burst ends with this step, `stops` says why.
pub record QueuesUpTo (ends : Bool) (given left : List Packet) (sent : ℕ) (met : Option PmdFault) (old : List Call)
    (r : Running) (new : List Call) (s : Running) : Type 0 where
  pub queues : Queues given left sent met old r new s
  pub stops : ends ≡ true → Stops met s left

-- For a packet that others follow: the packets that remain if it is returned, the number of packets queued, and whether
-- the burst ends with it.

abbrev pub left_with : Option Packet → List Packet → List Packet
left_with None rest = rest
left_with (Some back) rest = back ∷ rest

abbrev pub sent_by : Option Packet → ℕ
sent_by None = 1
sent_by (Some back) = 0

abbrev pub ends_by : Option Packet → Option PmdFault → Bool
ends_by None met = is_some met
ends_by (Some back) met = true

-- Queueing one packet is a step of a burst, whichever packets follow it.
abbrev pub QueuesOne : Packet → Result TxAnswer TxFault → List Call → Running → List Call → Running → Type 0
QueuesOne p x old r new s =
    (rest : List Packet) → QueuesUpTo (ends_by (returned x) (failed_in x)) (p ∷ rest) (left_with (returned x) rest)
    (sent_by (returned x)) (failed_in x) old r new s

-- The transmit half continued with the segments that were waiting, and accepted no packet.
pub record Continues (f : Option PmdFault) (old : List Call) (r : Running) (new : List Call) (s : Running) : Type 0
  where
    pub drives : DrivesRings old r new s
    pub keeps : KeepsUp r [] s []
    pub accepts : Accepts [] r s
    pub late : IfSome f (λ f. IsLate f)
    pub during : IfSome f (λ f. FailsDuring f (is_own r.arena) old (halves_of r) new)

-- Packets were queued, then the driver tried to advance the tail past them.
pub record Posts (given left : List Packet) (result : Result ℕ PmdFault) (old : List Call) (r : Running)
    (new : List Call) (s : Running) : Type 0 where
  pub drives : DrivesRings old r new s
  pub keeps : KeepsUp r (numbers_of_all given) s (numbers_of_all left)
  pub sends : SendsBurst given left result old r new s

-- If fewer than `vacant` slots were vacant, room was made for a burst, unless a fault stopped this.
pub record HasRoom (vacant : ℕ) (f : Option PmdFault) (old : List Call) (r : Running) (new : List Call) (s : Running)
    : Type 0 where
  pub drives : DrivesRings old r new s
  pub keeps : KeepsUp r [] s []
  pub room : MakesRoom vacant f old r new s
  pub accepted : s.transmit.accepted ≡ r.transmit.accepted
  pub layout : s.transmit.layout ≡ record r.transmit.layout { next = s.transmit.layout.next }
  pub receive : s.receive ≡ r.receive
  pub late : IfSome f (λ f. IsLate f)
  pub finds : IfSome f (λ f. FindsBy f (is_own r.arena) old (halves_of r) new)
