-- The result of filling the slot at the head, and the memory after the call.
use Rattle.std.specs.Prelude.{ℕ, ◌≢◌, min, ◌==◌, if◌then◌else◌, IsFalse, List, length, take, Result, Ok, Err}
use Rattle.dma_arena.specs.Memory.{Memory, is_lent, read_at, write_at}
use Rattle.dma_ring.specs.declared.ring.Ring.{Ring}
use Rattle.dma_ring.specs.declared.fault.RingFault.{RingFault}
use Rattle.dma_ring.specs.declared.fault.RingFault.TheVariants.{Outside, NotLent, DescType, NoBufferSize}
use Rattle.dma_ring.specs.Ring.{slots_of, is_outside, next_of, descriptor_address}
use Rattle.dma_ring.specs.Descriptor.{first_half, of_halves}
use Rattle.dma_ring.specs.Receive.{buffer_of, written_back}
use Rattle.rx_ring.specs.declared.filled.Filled.{Filled}
use Rattle.rx_ring.specs.Control.{descriptor_type_of, buffer_size_of}

-- The remaining bytes of a frame, and the first half to write back.
pub record Rest : Type 0 where
  pub bytes : List ℕ
  pub first : ℕ

-- The result of a fill, and the memory after the call.
pub record Outcome : Type 0 where
  pub answer : Result Filled RingFault
  pub memory : Memory

-- The device owns a slot of the ring, or the head or the tail is outside the ring.
abbrev pub IsReady : Ring → Type 0
IsReady r = IsFalse (is_outside r) → r.head ≢ r.tail

-- The address of the descriptor at the head (`head_address`), and of that descriptor's buffer (`buffer_address`).
abbrev pub head_address : Ring → ℕ
head_address r = descriptor_address r r.head

abbrev pub buffer_address : Memory → Ring → ℕ
buffer_address m r = buffer_of (first_half (read_at m (head_address r) 16))

-- The number of bytes that go into a buffer of `size` bytes: as many of the remaining bytes as fit.
abbrev pub piece_length : ℕ → Rest → ℕ
piece_length size rest = min size (length rest.bytes)

-- The result of filling the slot at the head after `len` bytes are written into the buffer at address `at`.
abbrev pub filled_of : Ring → Rest → ℕ → ℕ → Filled
filled_of r rest at len = record {
  slot = r.head;
  end = len == length rest.bytes;
  desc = head_address r;
  at = at;
  len = len;
  head = next_of (slots_of r) r.head;
}

-- The memory after the bytes and then the descriptor are written. Where they overlap, the descriptor's bytes remain.
abbrev pub memory_with : Memory → Rest → Filled → Memory
memory_with m rest f =
    write_at (write_at m f.at (take f.len rest.bytes)) f.desc (of_halves rest.first (written_back f.len f.end))

-- A fault leaves the memory unchanged.
abbrev pub fault_outcome : Memory → RingFault → Outcome
fault_outcome m fault = record { answer = Err fault; memory = m }

abbrev pub filled_outcome : Memory → Rest → Filled → Outcome
filled_outcome m rest f = record { answer = Ok f; memory = memory_with m rest f }

-- Third, the bytes to be written are tested.
unfoldable pub fill_buffer_of : Memory → Ring → Rest → ℕ → ℕ → Outcome
fill_buffer_of m r rest at len =
    if is_lent m at len then filled_outcome m rest (filled_of r rest at len) else fault_outcome m (NotLent at)

-- Second, the descriptor is tested. It contains the address of a buffer, which receives as many of the remaining bytes
-- as fit.
unfoldable pub fill_slot_of : Memory → Ring → Rest → ℕ → Outcome
fill_slot_of m r rest size =
    if is_lent m (head_address r) 16
    then fill_buffer_of m r rest (buffer_address m r) (piece_length size rest)
    else fault_outcome m (NotLent (head_address r))

-- First, the registers are tested.
unfoldable pub fill_of : Memory → Ring → ℕ → Rest → Outcome
fill_of m r srrctl rest =
    if is_outside r
    then fault_outcome m Outside
    else if descriptor_type_of srrctl == 1
    then (if buffer_size_of srrctl == 0 then fault_outcome m NoBufferSize else fill_slot_of m r rest
    (buffer_size_of srrctl))
    else fault_outcome m DescType
