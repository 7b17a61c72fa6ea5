-- What each call to a running driver returns and changes, given the calls made and the driver before and after it.
use Rattle.std.specs.Prelude.{ℕ, ◌≡◌, ◌↔◌, ◌++◌, ◌∷◌, [], false, length, List, Option, Result, Ok, Err, IfOk, IfErr, IfSome, IfNone, OnErr, IsTrue}
use Rattle.pmd_access.specs.NicDevice.DmaArena.Numbers.{is_own}
use Rattle.pmd_access.specs.DeviceLock.declared.entry.Call.{Call}
use Rattle.pmd_access.specs.Packet.{kept_of}
use Rattle.pmd_access.specs.declared.fault.PmdFault.{PmdFault}
use Rattle.pmd_access.specs.declared.fault.PmdFault.TheVariants.{NoBuffer}
use Rattle.pmd_access.specs.declared.packet.Packet.{Packet}
use Rattle.pmd_rx.specs.Keeping.{Keeps, handed_blocks}
use Rattle.pmd_rx.specs.Plays.{LooksInVain}
use Rattle.pmd_rx.specs.Wrong.{FailsBy, PacketWaits}
use Rattle.pmd_tx.specs.Plays.{LooksLast, FaultsBy}
use Rattle.pmd_tx.specs.Sends.{gate_of, outgoing_of, returned, IsAnswer, IsFullWhereReported, IsShut, IsAccepted, IsNoneAccepted, IsBack, IsLate, SendsHome, FreesSome}
use Rattle.pmd_tx.specs.declared.answer.Reaped.{Reaped}
use Rattle.pmd_tx.specs.declared.answer.TxAnswer.{TxAnswer}
use Rattle.pmd_tx.specs.declared.answer.TxAnswer.TheVariants.{Taken}
use Rattle.pmd_tx.specs.declared.answer.TxFault.{TxFault}
use Rattle.pmd_driver.specs.Apart.{FindsBy}
use Rattle.pmd_driver.specs.Halves.{halves_of}
use Rattle.pmd_driver.specs.Running.{Running, receives}

-- A call that receives the next packet.
pub record IsReceiveCall (result : Result (Option Packet) PmdFault) (old : List Call) (r : Running) (new : List Call)
    (s : Running) : Type 0 where
  -- If it hands out a packet, this packet is the newest that the driver has handed out.
  pub some : IfOk result (λ out. IfSome out (λ packet. s.receive.handed ≡ r.receive.handed ++ kept_of packet ∷ []))
  -- If it hands out no packet, it looked at a packet's slots and found a slot that isn't done.
  pub none : IfOk result (λ out. IfNone out (LooksInVain old r.receive new s.receive))
  -- If it returns a fault, it hands out no packet.
  pub err : OnErr result (s.receive.handed ≡ r.receive.handed)
  -- The receive half met the fault. After a refused call, the refused event is one that this half may cause next.
  pub fails : IfErr result (λ f. FailsBy f old r.arena r.receive new s.arena s.receive)
  -- After `DeviceFault`, each call is made by one of the halves or is a device step. The last call got a reply that a
  -- healthy queue never sends.
  pub finds : IfErr result (λ f. FindsBy f (is_own r.arena) old (halves_of r) new)
  -- After `NoBuffer`, a packet is waiting for free blocks.
  pub waits : result ≡ Err NoBuffer → PacketWaits s.receive.stage
  -- The receive half keeps its blocks, except those of the packet that it hands out.
  pub keeps : Keeps r.arena r.receive s.arena s.receive (handed_blocks result)
  -- The transmit half is unchanged.
  pub transmit : s.transmit ≡ r.transmit

-- A call that sends a packet.
pub record IsSendCall (packet : Packet) (result : Result TxAnswer TxFault) (old : List Call) (r : Running)
    (new : List Call) (s : Running) : Type 0 where
  -- The result follows from the check of the packet: the packet is refused, the ring is full, or the packet can be
  -- sent.
  pub answer : IsAnswer (gate_of r.transmit r.arena (receives r packet) packet) packet result
  -- If the ring is reported as full, it has no room for the packet.
  pub full : IsFullWhereReported r.transmit packet result
  -- If the packet doesn't pass the check, no call was made and the driver is unchanged.
  pub shut : IsShut (gate_of r.transmit r.arena (receives r packet) packet) → (new ≡ old) × (s ≡ r)
  -- A packet that isn't returned was accepted.
  pub accepted : IfNone (returned result) (IsAccepted r.transmit packet s.transmit)
  -- If the packet is returned, no packet was accepted.
  pub kept : IfSome (returned result) (λ back. IsNoneAccepted r.transmit s.transmit)
  -- A packet returned with a fault is the one passed in; after `DeviceFault`, only its block numbers are the same.
  pub back : IfErr result (λ failed. IfSome failed.packet (λ back. IsBack failed.fault packet back))
  -- The blocks that contain no bytes of an accepted packet were returned to the arena.
  pub home : SendsHome (returned result) packet r.arena s.arena
  -- After `Taken`, the tail has passed all outstanding packets.
  pub settled : result ≡ Ok Taken → s.transmit.posted ≡ length s.transmit.outstanding
  -- After a refused call, the refused event is one that the transmit half may cause next. After `DeviceFault`, the
  -- transmit half made the last call, which got a reply that a healthy queue never sends.
  pub faults : IfErr result (λ failed. FaultsBy failed.fault (outgoing_of packet).blocks old r.transmit new)
  -- After `DeviceFault`, each call up to that last one is made by one of the halves or is a device step.
  pub finds : IfErr result (λ failed. FindsBy failed.fault (is_own r.arena) old (halves_of r) new)
  -- The transmit ring is the same.
  pub layout : s.transmit.layout ≡ r.transmit.layout
  -- The receive half is unchanged.
  pub receive : s.receive ≡ r.receive

-- A call that frees the blocks of sent packets.
pub record IsReapCall (result : Result Reaped PmdFault) (old : List Call) (r : Running) (new : List Call)
    (s : Running) : Type 0 where
  -- It reports whether no packet is outstanding.
  pub idle : IfOk result (λ done. IsTrue done.idle ↔ (s.transmit.outstanding ≡ []))
  -- If a packet is outstanding, the last call looked at the oldest outstanding packet, which hasn't been sent.
  pub waits : IfOk result (λ done. done.idle ≡ false → LooksLast old r.transmit new s.transmit)
  -- It freed the blocks of as many packets as it reports, oldest first.
  pub freed : IfOk result (λ done. FreesSome r.transmit s.transmit r.arena s.arena done.freed)
  -- If it returns a fault, it freed the blocks of some packets, possibly none.
  pub some : OnErr result ((packets : ℕ) × FreesSome r.transmit s.transmit r.arena s.arena packets)
  -- It accepted no packet.
  pub accepted : s.transmit.accepted ≡ r.transmit.accepted
  -- The transmit ring is the same, except for the slot of the oldest packet.
  pub layout : s.transmit.layout ≡ record r.transmit.layout { next = s.transmit.layout.next }
  -- The fault is `DeviceFault` or a refused call.
  pub late : IfErr result (λ fault. IsLate fault)
  -- After a refused call, the refused event is one that the transmit half may cause next. After `DeviceFault`, the
  -- transmit half made the last call, which got a reply that a healthy queue never sends. No packet was accepted.
  pub faults : (blocks : List ℕ) → IfErr result (λ fault. FaultsBy fault blocks old r.transmit new)
  -- After `DeviceFault`, each call up to that last one is made by one of the halves or is a device step.
  pub finds : IfErr result (λ fault. FindsBy fault (is_own r.arena) old (halves_of r) new)
  -- The receive half is unchanged.
  pub receive : s.receive ≡ r.receive
