-- Which slot of a receive ring is written and which has a fault, in terms of register bits.
use Rattle.std.specs.Prelude.{ℕ, ◌≡◌, ◌≢◌, ◌<◌, ◌⊎◌, ◌+◌, ◌-◌, ◌*◌, ◌/◌, ◌%◌, ◌^◌, min, ⊤, IsTrue, IsFalse, List, ◌∷◌, length}
use Rattle.nic_device.specs.RegTable.declared.rows.RowId.TheVariants.{Srrctl, Rdbal, Rdbah, Rdlen, Rdh, Rdt}
use Rattle.nic_device.specs.declared.event.Event.TheVariants as event
use Rattle.datasheet_laws.specs.FramePrelude.{Block, DescType, Fault, NoBufferSize, NotLent, Outside, Registers, Reply}
use Rattle.datasheet_laws.specs.FramePrelude.{RingFault, State, Waiting, Wrote, first_half, is_lent, read_at, reply_to}
use Rattle.datasheet_laws.specs.FramePrelude.{word_of}
use Rattle.datasheet_laws.specs.Bits.{field}

-- The head and the tail of a receive ring, RDH and RDT bits 15 to 0, are slots of the ring. The ring has one slot
-- for each 16 bytes of its length, RDLEN bits 19 to 0.
pub record IsInside (r : Registers) (queue : ℕ) : Type 0 where
  pub head : field 15 0 (word_of r Rdh queue) < field 19 0 (word_of r Rdlen queue) / 16
  pub tail : field 15 0 (word_of r Rdt queue) < field 19 0 (word_of r Rdlen queue) / 16

-- The descriptor type is in SRRCTL bits 27 to 25. The size of a buffer is in SRRCTL bits 4 to 0 in KB; here it is in
-- bytes.
abbrev pub descriptor_type : Registers → ℕ → ℕ
descriptor_type r queue = field 27 25 (word_of r Srrctl queue)

abbrev pub buffer_size : Registers → ℕ → ℕ
buffer_size r queue = 1024 * field 4 0 (word_of r Srrctl queue)

-- A queue is set up: head and tail are inside its ring, descriptors have one buffer, and the buffer has a size.
pub record IsSetUp (r : Registers) (queue : ℕ) : Type 0 where
  pub inside : IsInside r queue
  pub type : descriptor_type r queue ≡ 1
  pub sized : buffer_size r queue ≢ 0

-- The address of the descriptor at the head: 16 bytes for each slot after the base in RDBAH and RDBAL.
abbrev pub descriptor_address : Registers → ℕ → ℕ
descriptor_address r queue =
    (word_of r Rdbah queue * 2 ^ 32 + word_of r Rdbal queue + 16 * field 15 0 (word_of r Rdh queue)) % 2 ^ 64

-- The address of the buffer that the descriptor names, with bit 0 ignored, and how many bytes of a frame go there: as
-- many of the remaining bytes as fit.
abbrev pub buffer_address : State → ℕ → ℕ
buffer_address s queue = 2 * (first_half (read_at s.memory (descriptor_address s.registers queue) 16) / 2)

abbrev pub piece_length : State → Waiting → ℕ
piece_length s w = min (buffer_size s.registers w.queue) (length w.frame - w.offset)

-- The descriptor at the reported address isn't lent (`LacksDescriptor`), or the descriptor is lent but the bytes of the
-- buffer at the reported address aren't (`LacksBuffer`).
pub record LacksDescriptor (s : State) (queue address : ℕ) : Type 0 where
  pub reported : address ≡ descriptor_address s.registers queue
  pub lacks : IsFalse (is_lent s.memory (descriptor_address s.registers queue) 16)

pub record LacksBuffer (s : State) (w : Waiting) (address : ℕ) : Type 0 where
  pub descriptor : IsTrue (is_lent s.memory (descriptor_address s.registers w.queue) 16)
  pub reported : address ≡ buffer_address s w.queue
  pub lacks : IsFalse (is_lent s.memory (buffer_address s w.queue) (piece_length s w))

-- Each fault for the first frame, if no earlier one applies.
abbrev pub HasFault : State → Waiting → RingFault → Type 0
HasFault s w Outside = IsInside s.registers w.queue → ⊥
HasFault s w DescType = IsInside s.registers w.queue × (descriptor_type s.registers w.queue ≢ 1)
HasFault s w NoBufferSize =
    IsInside s.registers w.queue × (descriptor_type s.registers w.queue ≡ 1)
    × (buffer_size s.registers w.queue ≡ 0)
HasFault s w (NotLent address) =
    IsSetUp s.registers w.queue × (LacksDescriptor s w.queue address ⊎ LacksBuffer s w address)
HasFault s w other = ⊥

-- A slot can be written: its queue is set up, and the descriptor and the buffer's bytes are lent.
pub record CanWrite (s : State) (w : Waiting) : Type 0 where
  pub set_up : IsSetUp s.registers w.queue
  pub descriptor : IsTrue (is_lent s.memory (descriptor_address s.registers w.queue) 16)
  pub buffer : IsTrue (is_lent s.memory (buffer_address s w.queue) (piece_length s w))

-- A slot that a step processes is written if it can be; otherwise it has the first fault that applies.
abbrev pub SlotIsSo : State → Waiting → Reply Block → Type 0
SlotIsSo s w (Wrote queue slot end desc at len) = CanWrite s w × (len ≡ piece_length s w)
SlotIsSo s w (Fault queue fault) = HasFault s w fault
SlotIsSo s w other = ⊤

abbrev pub SlotsHaveTheirFaults : Type 0
SlotsHaveTheirFaults =
    (s : State) (w : Waiting) (others : List Waiting) → s.waiting ≡ w ∷ others → SlotIsSo s w (reply_to s event.RxStep)
