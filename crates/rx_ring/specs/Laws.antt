-- What the device and a driver can rely on when a slot is filled.
use Rattle.std.specs.Prelude.{ℕ, ◌≡◌, ◌≢◌, ◌↔◌, ◌-◌, ◌*◌, ◌<◌, ◌^◌, List, length, take, IsTrue, IsFalse, Some, Ok, Err}
use Rattle.std.specs.FinMap as map
use Rattle.dma_arena.specs.Memory.{Memory, byte_at, is_lent, read_at, IsWhole, SameLent, IsOutside, AreApart, LiesIn, Avoids, put_bytes}
use Rattle.dma_ring.specs.declared.ring.Ring.{Ring}
use Rattle.dma_ring.specs.declared.fault.RingFault.{RingFault}
use Rattle.dma_ring.specs.declared.fault.RingFault.TheVariants.{Outside, NotLent, DescType, NoBufferSize}
use Rattle.dma_ring.specs.Ring.{slots_of, is_outside, next_of}
use Rattle.dma_ring.specs.Descriptor.{first_half, second_half, of_halves}
use Rattle.dma_ring.specs.Receive.{written_back, is_done, ends_packet, bytes_in}
use Rattle.rx_ring.specs.declared.filled.Filled.{Filled}
use Rattle.rx_ring.specs.Control.{descriptor_type_of, buffer_size_of}
use Rattle.rx_ring.specs.Fill.{Rest, head_address, buffer_address, piece_length, filled_of, memory_with, fault_outcome, filled_outcome, fill_of}

-- The registers describe a ring that contains the head and the tail, descriptors with one buffer, and a nonzero buffer
-- size.
pub record IsSetUp (r : Ring) (srrctl : ℕ) : Type 0 where
  pub inside : IsFalse (is_outside r)
  pub one_buffer : descriptor_type_of srrctl ≡ 1
  pub sized : buffer_size_of srrctl ≢ 0

-- The descriptor at the head is lent.
abbrev pub HasDescriptor : Memory → Ring → Type 0
HasDescriptor m r = IsTrue (is_lent m (head_address r) 16)

-- The first test that fails determines the fault. If no test fails, the slot is filled.
pub record TestsInOrder (m : Memory) (r : Ring) (srrctl : ℕ) (rest : Rest) : Type 0 where
  pub outside : IsTrue (is_outside r) → fill_of m r srrctl rest ≡ fault_outcome m Outside
  pub type : IsFalse (is_outside r) → descriptor_type_of srrctl ≢ 1 → fill_of m r srrctl rest ≡ fault_outcome m DescType
  pub size :
      IsFalse (is_outside r) → descriptor_type_of srrctl ≡ 1 → buffer_size_of srrctl ≡ 0
      → fill_of m r srrctl rest ≡ fault_outcome m NoBufferSize
  pub descriptor :
      IsSetUp r srrctl → IsFalse (is_lent m (head_address r) 16)
      → fill_of m r srrctl rest ≡ fault_outcome m (NotLent (head_address r))
  pub buffer :
      IsSetUp r srrctl → HasDescriptor m r
      → IsFalse (is_lent m (buffer_address m r) (piece_length (buffer_size_of srrctl) rest))
      → fill_of m r srrctl rest ≡ fault_outcome m (NotLent (buffer_address m r))
  pub filled :
      IsSetUp r srrctl → HasDescriptor m r
      → IsTrue (is_lent m (buffer_address m r) (piece_length (buffer_size_of srrctl) rest))
      → fill_of m r srrctl rest ≡ filled_outcome m rest
      (filled_of r rest (buffer_address m r) (piece_length (buffer_size_of srrctl) rest))

abbrev pub TestLaw : Type 0
TestLaw = (m : Memory) (r : Ring) (srrctl : ℕ) (rest : Rest) → TestsInOrder m r srrctl rest

-- A fault writes no memory.
abbrev pub FaultWritesNothing : Type 0
FaultWritesNothing =
    (m : Memory) (r : Ring) (srrctl : ℕ) (rest : Rest) (fault : RingFault)
    → (fill_of m r srrctl rest).answer ≡ Err fault
    → (fill_of m r srrctl rest).memory ≡ m

-- The slot is set up, and its descriptor and its whole buffer are lent. The buffer is 2,048 bytes long if SRRCTL
-- selects 2 KB.
pub record IsHealthy (m : Memory) (r : Ring) (srrctl : ℕ) : Type 0 where
  pub set_up : IsSetUp r srrctl
  pub descriptor : HasDescriptor m r
  pub buffer : IsTrue (is_lent m (buffer_address m r) (buffer_size_of srrctl))

-- For every frame, a slot is filled if the head and the tail are in the ring, the queue's descriptors have one buffer,
-- the buffer size isn't 0, and the descriptor and the whole buffer are lent.
abbrev pub HealthyIsFilled : Type 0
HealthyIsFilled =
    (m : Memory) (r : Ring) (srrctl : ℕ) (rest : Rest) → IsHealthy m r srrctl
    → fill_of m r srrctl rest ≡ filled_outcome m rest
    (filled_of r rest (buffer_address m r) (piece_length (buffer_size_of srrctl) rest))

-- The filled slot is the one at the head, and the head advances to the next slot. The buffer receives as many of the
-- frame's remaining bytes as fit. The frame ends in this buffer if and only if no bytes of the frame remain afterwards.
pub record TakesPiece (m : Memory) (r : Ring) (srrctl : ℕ) (rest : Rest) (f : Filled) : Type 0 where
  pub slot : f.slot ≡ r.head
  pub head : f.head ≡ next_of (slots_of r) r.head
  pub inside : f.head < slots_of r
  pub desc : f.desc ≡ head_address r
  pub at : f.at ≡ buffer_address m r
  pub len : f.len ≡ piece_length (buffer_size_of srrctl) rest
  pub end : IsTrue f.end ↔ (f.len ≡ length rest.bytes)
  pub some : 0 < length rest.bytes → 0 < f.len
  pub set_up : IsSetUp r srrctl
  pub descriptor_lent : IsTrue (is_lent m f.desc 16)
  pub buffer_lent : IsTrue (is_lent m f.at f.len)
  pub memory : (fill_of m r srrctl rest).memory ≡ memory_with m rest f

abbrev pub PieceLaw : Type 0
PieceLaw =
    (m : Memory) (r : Ring) (srrctl : ℕ) (rest : Rest) (f : Filled) → (fill_of m r srrctl rest).answer ≡ Ok f
    → TakesPiece m r srrctl rest f

-- What a driver reads from a filled slot. The slot's descriptor is done, has EOP set if and only if the frame ends, and
-- contains the number of written bytes and the given first half. The slot's buffer contains the written bytes, unless
-- the descriptor overlaps them.
pub record ShowsPiece (m : Memory) (rest : Rest) (f : Filled) : Type 0 where
  pub done : IsTrue (is_done (second_half (read_at m f.desc 16)))
  pub end : ends_packet (second_half (read_at m f.desc 16)) ≡ f.end
  pub len : bytes_in (second_half (read_at m f.desc 16)) ≡ f.len
  pub first : first_half (read_at m f.desc 16) ≡ rest.first
  pub bytes : AreApart f.at f.len f.desc 16 → read_at m f.at f.len ≡ take f.len rest.bytes

abbrev pub DriverReads : Type 0
DriverReads =
    (m : Memory) (r : Ring) (srrctl : ℕ) (rest : Rest) (f : Filled) → IsWhole m → rest.first < 2 ^ 64
    → (fill_of m r srrctl rest).answer ≡ Ok f → ShowsPiece (fill_of m r srrctl rest).memory rest f

-- Outside the bytes of the descriptor and the buffer, each byte, each read and each block is unchanged.
pub record ChangesOnlySlot (old new : Memory) (f : Filled) : Type 0 where
  pub bytes : (a : ℕ) → IsOutside a f.desc 16 → IsOutside a f.at f.len → byte_at new a ≡ byte_at old a
  pub reads : (a n : ℕ) → AreApart a n f.desc 16 → AreApart a n f.at f.len → read_at new a n ≡ read_at old a n
  pub blocks : (number : ℕ) → Avoids number f.desc 16 → Avoids number f.at f.len
      → map.get new number ≡ map.get old number

abbrev pub WritesInsideSlot : Type 0
WritesInsideSlot =
    (m : Memory) (r : Ring) (srrctl : ℕ) (rest : Rest) (f : Filled) → (fill_of m r srrctl rest).answer ≡ Ok f
    → ChangesOnlySlot m (fill_of m r srrctl rest).memory f

-- Whether or not the slot is filled, the same blocks remain lent, and each keeps its length of 2,048 bytes.
abbrev pub FillKeepsBlocks : Type 0
FillKeepsBlocks =
    (m : Memory) (r : Ring) (srrctl : ℕ) (rest : Rest)
    → SameLent (fill_of m r srrctl rest).memory m × (IsWhole m → IsWhole (fill_of m r srrctl rest).memory)

-- The descriptor is within one block and the written bytes are within one block. Every other block is unchanged. If
-- these two blocks differ, one changes only in the descriptor and the other only in the written bytes.
pub record FillsBlocks (old new : Memory) (rest : Rest) (f : Filled) (ring buffer : ℕ) : Type 0 where
  pub others : (number : ℕ) → number ≢ ring → number ≢ buffer → map.get new number ≡ map.get old number
  pub bytes :
      (block : List ℕ) → ring ≢ buffer → map.get old buffer ≡ Some block
      → map.get new buffer ≡ Some (put_bytes block (f.at - 2048 * buffer) (take f.len rest.bytes))
  pub descriptor :
      (block : List ℕ) → ring ≢ buffer → map.get old ring ≡ Some block
      → map.get new ring ≡ Some
      (put_bytes block (f.desc - 2048 * ring) (of_halves rest.first (written_back f.len f.end)))

abbrev pub FillsTwoBlocks : Type 0
FillsTwoBlocks =
    (m : Memory) (r : Ring) (srrctl : ℕ) (rest : Rest) (f : Filled) (ring buffer : ℕ) → IsWhole m
    → (fill_of m r srrctl rest).answer ≡ Ok f → LiesIn ring f.desc 16 → LiesIn buffer f.at f.len
    → FillsBlocks m (fill_of m r srrctl rest).memory rest f ring buffer
