-- What the reply to a step says about the state after it.
use Rattle.std.specs.Prelude.{ℕ, ◌≡◌, ◌≢◌, ◌+◌, ◌*◌, ◌/◌, ◌%◌, ◌^◌, false, ⊤, List, [], ◌∷◌, ◌++◌, length, Option, Some, if◌then◌else◌}
use Rattle.nic_device.specs.DmaRing.declared.ring.Ring.{Ring}
use Rattle.nic_device.specs.DmaRing.Ring.{slots_of, next_of, descriptor_address}
use Rattle.device_laws.specs.Prelude.{Block, Event, IsSound, Registers, Reply, Rx, State, Tdwbah, Tdwbal, Tx, after}
use Rattle.device_laws.specs.Prelude.{gives, has_bit, receive_queue_of, reply_to, ring_of, staged_by, step_of}
use Rattle.device_laws.specs.Prelude.{transmit_queue_of, word_of}
use Rattle.device_laws.specs.Leaving.{IsFirstFor}
use Rattle.nic_device.specs.declared.event.Event.TheVariants as event
use Rattle.nic_device.specs.declared.event.Reply.TheVariants.{Wrote, Advanced, Sent, Fault, Frame, Misaligned}

-- A ring with its head moved to the next slot.
abbrev pub moved_on : Ring → Ring
moved_on ring = record ring { head = next_of (slots_of ring) ring.head }

-- A receive side used a slot for the first frame in the receive list. The slot was at the side's head, which moves to
-- the next slot. The rest of the side is unchanged.
pub record TookReceive (queue slot : ℕ) (old new : State) : Type 0 where
  pub first : IsFirstFor queue old.waiting
  pub at_head : slot ≡ (ring_of old.registers Rx queue).head
  pub side :
      receive_queue_of new.registers queue
      ≡ record (receive_queue_of old.registers queue) { ring = moved_on (ring_of old.registers Rx queue) }

-- The receive side of the first frame's queue had a fault. The side is disabled, its enable request is withdrawn, and
-- the rest of the side is unchanged.
pub record ShutReceive (queue : ℕ) (old new : State) : Type 0 where
  pub first : IsFirstFor queue old.waiting
  pub side :
      receive_queue_of new.registers queue
      ≡ record (receive_queue_of old.registers queue) { on = false; wanted = false }

-- What the reply to a receive step says about the old and the new state.
abbrev pub received_tells : Reply Block → State → State → Type 0
received_tells (Wrote queue slot end desc at len) old new = TookReceive queue slot old new
received_tells (Fault queue fault) old new = ShutReceive queue old new
received_tells other old new = ⊤

-- The address to which a queue reports: its head write-back address if TDWBAL bit 0 is 1, otherwise the address of the
-- descriptor at its head.
abbrev pub report_of : Registers → ℕ → ℕ
report_of r queue =
    if has_bit 0 (word_of r Tdwbal queue)
    then word_of r Tdwbah queue * 2 ^ 32 + 4 * (word_of r Tdwbal queue / 4)
    else descriptor_address (ring_of r Tx queue) (ring_of r Tx queue).head

-- The transmit side of the step's own queue used the slot at its head, which moves to the next slot. The rest of the
-- side, except its staged bytes, is unchanged. A write-back address in the reply is the address to which the queue
-- reports.
pub record TookTransmit (own queue : ℕ) (back : Option ℕ) (old new : State) : Type 0 where
  pub named : queue ≡ own
  pub side :
      transmit_queue_of new.registers own
      ≡ record (transmit_queue_of old.registers own) { ring = moved_on (ring_of old.registers Tx own) }
  pub reported : (address : ℕ) → back ≡ Some address → address ≡ report_of old.registers own

-- The transmit side of the step's own queue was disabled. Its enable request is withdrawn, nothing is staged, and the
-- rest of the side is unchanged.
pub record ShutTransmit (own queue : ℕ) (old new : State) : Type 0 where
  pub named : queue ≡ own
  pub side :
      transmit_queue_of new.registers own
      ≡ record (transmit_queue_of old.registers own) { on = false; wanted = false }
  pub staged : staged_by new own ≡ []

-- What the reply to a transmit step says about the old and the new state.
abbrev pub sent_tells : ℕ → Reply Block → State → State → Type 0
sent_tells own (Advanced queue slot back) old new =
    TookTransmit own queue back old new × (slot ≡ (ring_of old.registers Tx own).head)
sent_tells own (Sent queue len back) old new = TookTransmit own queue back old new
sent_tells own (Fault queue fault) old new = ShutTransmit own queue old new
sent_tells own other old new = ⊤

abbrev pub ReceivingTells : Type 0
ReceivingTells = (s : State) → IsSound s → received_tells (reply_to s event.RxStep) s (after s event.RxStep)

abbrev pub TransmittingTells : Type 0
TransmittingTells =
    (s : State) → IsSound s → (queue : ℕ) →
    sent_tells queue (reply_to s (event.TxStep queue)) s (after s (event.TxStep queue))

-- A frame with this many bytes was appended to the transmitted frames.
pub record AddsFrame (queue len : ℕ) (old new : State) : Type 0 where
  pub frame : List ℕ
  pub long : length frame ≡ len
  pub out : new.out ≡ old.out ++ (queue, frame) ∷ []

-- The transmitted frames after a transmit step, and after the oldest frame was collected.
abbrev pub out_sent : Reply Block → State → State → Type 0
out_sent (Sent queue len back) old new = AddsFrame queue len old new
out_sent other old new = new.out ≡ old.out

abbrev pub out_collected : Reply Block → State → State → Type 0
out_collected (Frame queue bytes) old new = old.out ≡ (queue, bytes) ∷ new.out
out_collected other old new = new.out ≡ old.out

-- The transmitted frames after an event. A frame is appended if and only if a transmit step reports it as sent. A frame
-- is removed if and only if it is collected. No other event changes the transmitted frames.
abbrev pub out_after : Event Block → Reply Block → State → State → Type 0
out_after (event.TxStep queue) reply old new = out_sent reply old new
out_after event.Collect reply old new = out_collected reply old new
out_after other reply old new = new.out ≡ old.out

abbrev pub EventsMoveFramesOut : Type 0
EventsMoveFramesOut = (s : State) (e : Event Block) → out_after e (reply_to s e) s (after s e)

-- At an address that isn't a multiple of 16, no bytes are read or written, and nothing changes.
pub record RefusesMisaligned (s : State) (address : ℕ) : Type 0 where
  pub peek : step_of s (event.Peek16 address) ≡ gives Misaligned s
  pub poke : (bytes : List ℕ) → step_of s (event.Poke16 address bytes) ≡ gives Misaligned s

abbrev pub MisalignedChangesNothing : Type 0
MisalignedChangesNothing = (s : State) (address : ℕ) → address % 16 ≢ 0 → RefusesMisaligned s address
