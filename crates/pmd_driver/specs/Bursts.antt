-- The result and the new state of a running driver that receives or sends several packets in one call. The effect is
-- the same as with one call for each packet, but with one tail write for all packets.
use Rattle.std.specs.Prelude.{ℕ, ◌≡◌, ◌⊎◌, ◌-◌, ◌<◌, ◌≤◌, ◌++◌, ◌∷◌, [], ⊤, false, length, drop, map, List, Option, Some, None, Result, Ok, Err, IfOk, IfErr, IfSome, OnErr}
use Rattle.pmd_access.specs.NicDevice.DmaArena.Block.{Block}
use Rattle.pmd_access.specs.NicDevice.DmaArena.Numbers.{Numbers, is_own}
use Rattle.pmd_access.specs.NicDevice.declared.event.Event.{Event}
use Rattle.pmd_access.specs.DeviceLock.Alone.{Blocks}
use Rattle.pmd_access.specs.DeviceLock.declared.entry.Call.{Call}
use Rattle.pmd_access.specs.Bufs.{numbers_of, with_all_free}
use Rattle.pmd_access.specs.Asks.{fault_in}
use Rattle.pmd_access.specs.declared.fault.PmdFault.{PmdFault}
use Rattle.pmd_access.specs.declared.fault.PmdFault.TheVariants as fault
use Rattle.pmd_access.specs.declared.packet.Packet.{Packet}
use Rattle.pmd_rx.specs.Keeping.{Keeps, numbers_of_all}
use Rattle.pmd_rx.specs.Plays.{LooksInVain}
use Rattle.pmd_rx.specs.Receive.{records_of}
use Rattle.pmd_rx.specs.Wrong.{FailsBy, PacketWaits}
use Rattle.pmd_tx.specs.Plays.{is_elsewhere}
use Rattle.pmd_tx.specs.Sending as sending
use Rattle.pmd_tx.specs.Sending.{Sender, Segment, Move, parts_for, segments_of}
use Rattle.pmd_tx.specs.Sends.{accepted_of, gate_of, outgoing_of, IsAnswer, IsBack, IsFullWhereReported, IsLate, IsShut}
use Rattle.pmd_tx.specs.declared.answer.Reaped.{Reaped}
use Rattle.pmd_tx.specs.declared.answer.TxAnswer.{TxAnswer}
use Rattle.pmd_tx.specs.declared.answer.TxAnswer.TheVariants.{RingFull}
use Rattle.pmd_tx.specs.declared.answer.TxFault.{TxFault}
use Rattle.pmd_driver.specs.Apart.{DrivesApart, DrivesRings, FindsBy, FindsFault, LendsApart}
use Rattle.pmd_driver.specs.DriverCalls.{IsReapCall}
use Rattle.pmd_driver.specs.Halves.{Halves, Sends, halves_of}
use Rattle.pmd_driver.specs.Running.{Running, receives}

-- A call that hands out at most `most` packets and appends them to a list.
pub record IsReceiveBurst (most : ℕ) (before after : List Packet) (result : Result ℕ PmdFault) (old : List Call)
    (r : Running) (new : List Call) (s : Running) : Type 0 where
  pub packets : List Packet
  -- It hands out as many packets as it reports, at most `most`, and none if it returns a fault.
  pub out : after ≡ before ++ packets
  pub count : IfOk result (λ n. n ≡ length packets)
  pub few : length packets ≤ most
  pub err : OnErr result (packets ≡ [])
  -- These packets are the newest that the driver has handed out.
  pub handed : s.receive.handed ≡ r.receive.handed ++ records_of packets
  -- If it hands out none although `most` isn't 0, it looked at a packet's slots and found a slot that isn't done.
  pub none : result ≡ Ok 0 → 0 < most → LooksInVain old r.receive new s.receive
  -- The receive half met the fault. After a refused call, the refused event is one that this half may cause next.
  pub fails : IfErr result (λ f. FailsBy f old r.arena r.receive new s.arena s.receive)
  -- After `DeviceFault`, each call is made by one of the halves or is a device step. The last call got a reply that a
  -- healthy queue never sends.
  pub finds : IfErr result (λ f. FindsBy f (is_own r.arena) old (halves_of r) new)
  -- After `NoBuffer`, a packet is waiting for free blocks.
  pub waits : result ≡ Err fault.NoBuffer → PacketWaits s.receive.stage
  -- The receive half keeps its blocks, except those of the packets that it hands out.
  pub keeps : Keeps r.arena r.receive s.arena s.receive (numbers_of_all packets)
  -- The transmit half is unchanged.
  pub transmit : s.transmit ≡ r.transmit

-- The number of segments that still fit. All slots of the ring except one may be outstanding.
abbrev pub vacant_in : Sender → ℕ
vacant_in v = v.layout.size - 1 - length v.outstanding

-- `MayAnswer`: a result that the driver may return for a packet, according to the check of the packet. `IsKeptOut`:
-- before any event, the packet is refused or the ring is too full for it.

abbrev pub MayAnswer : Running → Packet → Result TxAnswer TxFault → Type 0
MayAnswer r p answer = IsAnswer (gate_of r.transmit r.arena (receives r p) p) p answer

abbrev pub IsKeptOut : Running → Packet → Type 0
IsKeptOut r p = IsShut (gate_of r.transmit r.arena (receives r p) p)

-- The segments of these packets.
abbrev pub segments_in : List Packet → List Segment
segments_in [] = []
segments_in (p ∷ ps) = segments_of (outgoing_of p) ++ segments_in ps

-- The arena after these packets were accepted, in order, and each packet's blocks that contain none of its bytes were
-- returned to the arena.
abbrev pub with_rests : Numbers → List Packet → Numbers
with_rests a [] = a
with_rests a (p ∷ ps) = with_rests (with_all_free a (drop (parts_for p.len) (numbers_of p.bufs))) ps

-- These packets were accepted, in order, after the earlier ones.
pub record Accepts (gone : List Packet) (r s : Running) : Type 0 where
  pub accepted : s.transmit.accepted ≡ r.transmit.accepted ++ map accepted_of gone
  pub outstanding : s.transmit.outstanding ≡ r.transmit.outstanding ++ segments_in gone
  pub arena : s.arena ≡ with_rests r.arena gone
  pub layout : s.transmit.layout ≡ r.transmit.layout
  pub receive : s.receive ≡ r.receive

-- Each call is made by one of the halves or is a device step. After the calls, the refused event is a move that the
-- transmit half may make next. If this event lends a block, the transmit half may lend that block.
pub record AsksApart (own : Blocks) (old : List Call) (h : Halves) (new : List Call) : Type 0 where
  pub there : Halves
  pub move : Move
  pub event : Event Block
  pub drives : DrivesApart own old h new there
  pub mine : sending.IsOwn there.transmit move event
  pub ours : is_elsewhere move ≡ false
  pub apart : LendsApart own there (Sends move) event

-- For `DeviceFault`, the last call got a reply that a healthy queue never sends. For a refused call, the refused event
-- is one that the transmit half may cause after these calls. Other faults require nothing.
abbrev pub FailsDuring : PmdFault → Blocks → List Call → Halves → List Call → Type 0
FailsDuring fault.DeviceFault own old h new = FindsFault own old h new
FailsDuring (fault.Call refusal) own old h new = AsksApart own old h new
FailsDuring f own old h new = ⊤

-- `FailsDuring` holds for the calls up to some point.
abbrev pub FailedDuring : PmdFault → Blocks → List Call → Halves → List Call → Type 0
FailedDuring f own old h new =
    (mid : List Call) × (later : List Call) × (new ≡ mid ++ later) × FailsDuring f own old h mid

-- The packets that weren't accepted remain. If a fault occurred, the first remaining packet may differ from the one
-- given as far as `IsBack` permits after this fault.
abbrev pub AreLeft : Option PmdFault → List Packet → List Packet → Type 0
AreLeft None waiting left = left ≡ waiting
AreLeft (Some f) [] left = left ≡ []
AreLeft (Some f) (p ∷ waiting) [] = ⊥
AreLeft (Some f) (p ∷ waiting) (q ∷ left) = IsBack f p q × (left ≡ waiting)

-- The first of these packets is refused before any event.
abbrev pub IsRefusedFirst : PmdFault → Running → List Packet → Type 0
IsRefusedFirst f s [] = ⊥
IsRefusedFirst f s (p ∷ left) = IsKeptOut s p × MayAnswer s p (Err (record { fault = f; packet = Some p }))

-- Why no more packets were accepted: no packet remains, the ring has no room for the next packet, the next packet is
-- refused before any event, or a fault occurred during events.
abbrev pub Stops : Option PmdFault → Running → List Packet → Type 0
Stops None s [] = ⊤
Stops None s (p ∷ left) =
    IsKeptOut s p × MayAnswer s p (Ok (RingFull p)) × IsFullWhereReported s.transmit p (Ok (RingFull p))
Stops (Some f) s left = IsLate f ⊎ IsRefusedFirst f s left

-- A call that sends packets. The driver accepted the first packets, then advanced the tail past them and past earlier
-- packets that the tail hadn't passed yet.
pub record SendsBurst (given left : List Packet) (result : Result ℕ PmdFault) (old : List Call) (r : Running)
    (new : List Call) (s : Running) : Type 0 where
  pub gone : List Packet
  pub waiting : List Packet
  -- The fault met by the last accepted packet or by the first packet that wasn't accepted, if any.
  pub met : Option PmdFault
  -- The first packets, as many as reported, were accepted and are now the newest accepted packets.
  pub given_are : given ≡ gone ++ waiting
  pub accepts : Accepts gone r s
  pub count : IfOk result (λ n. n ≡ length gone)
  -- They were queued without moving the tail, which was then advanced.
  pub queued : List Call
  pub following : Running
  pub queues : DrivesRings old r queued following × Accepts gone r following
      × (following.transmit.posted ≡ r.transmit.posted)
  pub posts : DrivesRings queued following new s × Accepts [] following s
  -- The other packets remain.
  pub left_are : AreLeft met waiting left
  pub stops : Stops met s left
  pub during : IfSome met (λ f. FailedDuring f (is_own r.arena) old (halves_of r) new)
  -- If no packet was accepted, the result is the fault that the first packet met, if any.
  pub none : gone ≡ [] → IfSome met (λ f. result ≡ Err f)
  -- A returned fault occurred during events, or no packet was accepted and the first packet met this fault.
  pub fails : IfErr result (λ f. IsLate f ⊎ ((gone ≡ []) × (met ≡ Some f)))
  pub faults : IfErr result (λ f. FailsDuring f (is_own r.arena) old (halves_of r) new)
  -- If the first packet is refused before any event, no call was made and nothing changed.
  pub shut : (f : PmdFault) → IsRefusedFirst f r given
      → (result ≡ Err f) × (left ≡ given) × (new ≡ old) × (s ≡ r)
  -- If no fault is returned, the tail has passed all outstanding packets.
  pub settled : IfOk result (λ n. s.transmit.posted ≡ length s.transmit.outstanding)

-- If fewer than `vacant` slots were vacant, the blocks of sent packets were freed, unless a fault stopped this.
pub record MakesRoom (vacant : ℕ) (failed : Option PmdFault) (old : List Call) (r : Running) (new : List Call)
    (s : Running) : Type 0 where
  pub room : vacant ≤ vacant_in r.transmit → (new ≡ old) × (s ≡ r) × (failed ≡ None)
  pub frees : vacant_in r.transmit < vacant
      → (reaped : Result Reaped PmdFault) × IsReapCall reaped old r new s × (failed ≡ fault_in reaped)

-- A fault while making room is returned before any packet is accepted.
abbrev pub SendsWith : Option PmdFault → List Packet → List Packet → Result ℕ PmdFault → List Call → Running → List Call
    → Running → Type 0
SendsWith None given left result old r new s = SendsBurst given left result old r new s
SendsWith (Some f) given left result old r new s = (result ≡ Err f) × (left ≡ given) × (new ≡ old) × (s ≡ r)

-- A call that sends packets. If fewer than `vacant` slots were vacant, the driver first made room.
pub record IsSendBurst (vacant : ℕ) (given left : List Packet) (result : Result ℕ PmdFault) (old : List Call)
    (r : Running) (new : List Call) (s : Running) : Type 0 where
  -- After room was made, `made` are all calls made so far and `there` is the driver's state.
  pub made : List Call
  pub there : Running
  pub failed : Option PmdFault
  pub room : MakesRoom vacant failed old r made there
  pub drives : DrivesRings old r made there
  pub sends : SendsWith failed given left result made there new s
  -- The first packets, as many as reported, were accepted and are now the newest accepted packets.
  pub gone : List Packet
  pub waiting : List Packet
  pub given_are : given ≡ gone ++ waiting
  pub accepted : s.transmit.accepted ≡ r.transmit.accepted ++ map accepted_of gone
  pub count : IfOk result (λ n. n ≡ length gone)
  -- The fault is one that the first remaining packet meets before any event, or one that occurred during events.
  pub fails : IfErr result (λ f. IsLate f ⊎ IsRefusedFirst f s left)
  -- After `DeviceFault`, each call is made by one of the halves or is a device step. The last call got a reply that a
  -- healthy queue never sends.
  pub finds : IfErr result (λ f. FindsBy f (is_own r.arena) old (halves_of r) new)
  -- If no fault is returned, the tail has passed all outstanding packets.
  pub settled : IfOk result (λ n. s.transmit.posted ≡ length s.transmit.outstanding)
  -- The transmit ring is the same, except for the slot of the oldest packet.
  pub layout : s.transmit.layout ≡ record r.transmit.layout { next = s.transmit.layout.next }
  -- The receive half is unchanged.
  pub receive : s.receive ≡ r.receive
