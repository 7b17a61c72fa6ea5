-- A receive step: it writes the next piece of the oldest frame in the receive list, using one descriptor.
use Rattle.std.specs.Prelude.{ℕ, ◌+◌, ◌==◌, Bool, ◌&&◌, not, List, [], ◌∷◌, drop, Result, Ok, Err, if◌then◌else◌}
use Rattle.rx_ring.specs.DmaRing.declared.ring.Ring.{Ring}
use Rattle.rx_ring.specs.DmaRing.declared.fault.RingFault.{RingFault}
use Rattle.rx_ring.specs.DmaRing.Receive.{reported_of}
use Rattle.rx_ring.specs.DmaRing.Ring.{is_outside}
use Rattle.rx_ring.specs.DmaRing.declared.receive.Packet.{Packet}
use Rattle.register_file.specs.RssHash.Flow.{flow_of}
use Rattle.register_file.specs.RegTable.declared.rows.RowId.TheVariants.{Qprc, Qprdc, Vfgprc}
use Rattle.register_file.specs.Counters.{counted, counter_of}
use Rattle.register_file.specs.Registers.{Registers}
use Rattle.rx_ring.specs.Fill.{Rest, fill_of}
use Rattle.rx_ring.specs.declared.filled.Filled.{Filled}
use Rattle.register_file.specs.Queue.{with_head}
use Rattle.register_file.specs.Settings.{is_stopped, drops}
use Rattle.rx_ring.specs.DmaRing.declared.dir.Dir.TheVariants.{Rx}
use Rattle.register_laws.specs.Sides.{ReceiveQueue, receive_queue_of}
use Rattle.rx_ring.specs.DmaArena.Memory.{Memory}
use Rattle.nic_device.specs.State.{State, Waiting}
use Rattle.nic_device.specs.Interrupt.{function_of_queue, function_counted, raised_by, side_failed}
use Rattle.nic_device.specs.Outcome.{Outcome, gives}
use Rattle.nic_device.specs.declared.event.Reply.TheVariants.{Idle, Dropped, Wrote, Fault}
use Rattle.nic_device.specs.declared.event.Why.TheVariants.{QueueOff, NoSlot}

-- The device owns no slot of a ring: head and tail are equal and in range.
abbrev pub is_empty : Ring → Bool
is_empty ring = not (is_outside ring) && ring.head == ring.tail

-- What descriptors report about a frame: its RSS type and hash, and the protocols that its bytes contain.
abbrev pub packet_of : Waiting → Packet
packet_of w =
    let flow = flow_of w.frame in
    record {
      rss = w.rss;
      ipv4 = flow.version == 4;
      ipv6 = flow.version == 6;
      tcp = flow.tcp;
      udp = flow.udp;
      hash = w.hash;
    }

-- The part of a frame that remains to be written.
abbrev pub rest_of : Waiting → Rest
rest_of w = record { bytes = drop w.offset w.frame; first = reported_of (packet_of w) }

-- The registers after a frame is dropped because its queue has no free slot (`slotless_counted`), and after a frame is
-- completely written (`frame_counted`). A completely written frame is counted for its queue and for the queue's virtual
-- function.
abbrev pub slotless_counted : Registers → ℕ → Registers
slotless_counted r queue = counted r Qprdc (counter_of r Rx queue)

abbrev pub frame_counted : Registers → (vfs queue : ℕ) → Registers
frame_counted r vfs queue =
    function_counted (counted r Qprc (counter_of r Rx queue)) (function_of_queue r vfs queue) Vfgprc

-- The registers after a piece of a frame is written: the head moves. If the piece ends the frame, the frame is counted
-- and raises its queue's receive cause.
abbrev pub piece_done : Registers → (vfs : ℕ) → ℕ → Filled → Registers
piece_done r vfs queue f =
    if f.end then raised_by (frame_counted (with_head r Rx queue f.head) vfs queue) vfs Rx queue
    else with_head r Rx queue f.head

-- The frame's queue has no free descriptor. If drop enable is set and none of the frame is written yet, the frame is
-- dropped. Otherwise it stays.
abbrev pub without_slot : State → Waiting → List Waiting → Outcome
without_slot s w others =
    if drops s.registers w.queue && w.offset == 0
    then gives (Dropped NoSlot) (record s { registers = slotless_counted s.registers w.queue; waiting = others })
    else gives Idle s

-- The receive list after a piece of the first frame is written.
abbrev pub after_piece : Waiting → List Waiting → Filled → List Waiting
after_piece w others f = if f.end then others else record w { offset = w.offset + f.len } ∷ others

-- The slot at the queue's head was filled, or had a fault. A fault drops the frame and disables the queue's receive
-- side.
abbrev pub slot_done : State → Waiting → List Waiting → Result Filled RingFault → Memory → Outcome
slot_done s w others (Ok f) memory =
    gives (Wrote w.queue f.slot f.end f.desc f.at f.len)
    (record s {
      registers = piece_done s.registers s.vfs w.queue f;
      memory = memory;
      waiting = after_piece w others f;
    })
slot_done s w others (Err fault) memory =
    gives (Fault w.queue fault) (record s { registers = side_failed s.registers Rx w.queue; waiting = others })

-- The slot at the head of a queue is filled from the unwritten rest of a frame.
abbrev pub slot_filled : State → Waiting → List Waiting → ReceiveQueue → Outcome
slot_filled s w others q =
    slot_done s w others (fill_of s.memory q.ring q.control (rest_of w)).answer
    (fill_of s.memory q.ring q.control (rest_of w)).memory

-- The first frame is received by its queue.
abbrev pub frame_received : State → Waiting → List Waiting → ReceiveQueue → Outcome
frame_received s w others q =
    if q.on then (if is_empty q.ring then without_slot s w others else slot_filled s w others q)
    else gives (Dropped QueueOff) (record s { waiting = others })

-- The first frame of the receive list is received.
abbrev pub first_received : State → List Waiting → Outcome
first_received s [] = gives Idle s
first_received s (w ∷ others) = frame_received s w others (receive_queue_of s.registers w.queue)

-- One receive step.
abbrev pub received : State → Outcome
received s = if is_stopped s.registers then gives Idle s else first_received s s.waiting
