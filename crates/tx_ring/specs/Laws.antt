-- What the device and a driver can rely on when a slot is fetched.
use Rattle.std.specs.Prelude.{ℕ, ◌≡◌, ◌≢◌, ◌<◌, ◌≤◌, ◌+◌, ◌/◌, ◌%◌, ◌^◌, ◌⊎◌, List, [], ◌∷◌, ◌++◌, length, if◌then◌else◌, IsTrue, IsFalse, Some, None, Ok, Err, ⊤}
use Rattle.std.specs.FinMap as map
use Rattle.std.specs.Int.{w32, to_le_bytes}
use Rattle.dma_arena.specs.Memory.{Memory, byte_at, is_lent, read_at, IsWhole, SameLent, IsOutside, AreApart, LiesIn, Avoids}
use Rattle.dma_ring.specs.declared.ring.Ring.{Ring}
use Rattle.dma_ring.specs.declared.transmit.Command.{Command}
use Rattle.dma_ring.specs.declared.fault.RingFault.{RingFault}
use Rattle.dma_ring.specs.declared.fault.RingFault.TheVariants.{Outside, NotLent, Offload, Legacy, TooLong, UnknownType}
use Rattle.dma_ring.specs.Descriptor.{first_half, second_half}
use Rattle.dma_ring.specs.Laws.{SetsDone}
use Rattle.dma_ring.specs.Ring.{slots_of, is_outside, next_of}
use Rattle.tx_ring.specs.declared.tx.Tx.{Tx}
use Rattle.tx_ring.specs.declared.fetched.Fetched.{Fetched}
use Rattle.tx_ring.specs.Frame.{frame_of}
use Rattle.tx_ring.specs.Report.{head_address, report_address, report_length, done_descriptor}
use Rattle.tx_ring.specs.Fetch.{Outcome, descriptor_of, command_in, buffer_in, buffer_bytes, is_context, CanSend, fault_outcome, context_outcome, data_outcome, fetch_of}

-- The command of the descriptor at the head.
abbrev pub command_at : Memory → Ring → Command
command_at m r = command_in (descriptor_of m r)

-- The head and the tail are slots of the ring, and the descriptor at the head is lent.
pub record HasDescriptor (m : Memory) (r : Ring) : Type 0 where
  pub inside : IsFalse (is_outside r)
  pub lent : IsTrue (is_lent m (head_address r) 16)

-- The descriptor at the head has the advanced format and this type.
pub record HasType (m : Memory) (r : Ring) (kind : ℕ) : Type 0 where
  pub descriptor : HasDescriptor m r
  pub extended : IsTrue (command_at m r).extended
  pub type : (command_at m r).kind ≡ kind

abbrev pub HasContext : Memory → Ring → Type 0
HasContext m r = HasType m r 2

abbrev pub HasData : Memory → Ring → Type 0
HasData m r = HasType m r 3

-- The first test that fails determines the fault. If no test fails, the descriptor is completed.
pub record TestsInOrder (m : Memory) (staged : List ℕ) (r : Ring) (tx : Tx) : Type 0 where
  pub outside : IsTrue (is_outside r) → fetch_of m staged r tx ≡ fault_outcome m staged Outside
  pub descriptor :
      IsFalse (is_outside r) → IsFalse (is_lent m (head_address r) 16)
      → fetch_of m staged r tx ≡ fault_outcome m staged (NotLent (head_address r))
  pub legacy : HasDescriptor m r → IsFalse (command_at m r).extended
      → fetch_of m staged r tx ≡ fault_outcome m staged Legacy
  pub type :
      HasDescriptor m r → IsTrue (command_at m r).extended → (command_at m r).kind ≢ 2 → (command_at m r).kind ≢ 3
      → fetch_of m staged r tx ≡ fault_outcome m staged UnknownType
  pub context : HasContext m r → fetch_of m staged r tx ≡ context_outcome m staged r
  pub offload : HasData m r → IsTrue (command_at m r).offload → fetch_of m staged r tx ≡ fault_outcome m staged Offload
  pub too_long :
      HasData m r → IsFalse (command_at m r).offload → tx.limit < length staged + (command_at m r).len
      → fetch_of m staged r tx ≡ fault_outcome m staged TooLong
  pub buffer :
      HasData m r → IsFalse (command_at m r).offload → length staged + (command_at m r).len ≤ tx.limit
      → IsFalse (is_lent m (buffer_in (descriptor_of m r)) (command_at m r).len)
      → fetch_of m staged r tx ≡ fault_outcome m staged (NotLent (buffer_in (descriptor_of m r)))
  pub report :
      HasData m r → IsFalse (command_at m r).offload → length staged + (command_at m r).len ≤ tx.limit
      → IsTrue (is_lent m (buffer_in (descriptor_of m r)) (command_at m r).len) → IsTrue (command_at m r).report
      → IsFalse (is_lent m (report_address r tx) (report_length tx.writeback))
      → fetch_of m staged r tx ≡ fault_outcome m staged (NotLent (report_address r tx))
  pub sent :
      HasData m r → CanSend m r tx (length staged) (descriptor_of m r)
      → fetch_of m staged r tx ≡ data_outcome m staged r tx (descriptor_of m r)

abbrev pub TestLaw : Type 0
TestLaw = (m : Memory) (staged : List ℕ) (r : Ring) (tx : Tx) → TestsInOrder m staged r tx

-- A fault changes neither the memory nor the staged bytes.
abbrev pub FaultChangesNothing : Type 0
FaultChangesNothing =
    (m : Memory) (staged : List ℕ) (r : Ring) (tx : Tx) (fault : RingFault)
    → (fetch_of m staged r tx).answer ≡ Err fault
    → ((fetch_of m staged r tx).memory ≡ m) × ((fetch_of m staged r tx).staged ≡ staged)

-- The fetched slot is the one at the head, and the head advances to the next slot. Its descriptor was a context
-- descriptor, or a data descriptor that passed its tests.
pub record TakesSlot (m : Memory) (staged : List ℕ) (r : Ring) (tx : Tx) (f : Fetched) : Type 0 where
  pub slot : f.slot ≡ r.head
  pub head : f.head ≡ next_of (slots_of r) r.head
  pub inside : f.head < slots_of r
  pub done :
      (HasContext m r × (fetch_of m staged r tx ≡ context_outcome m staged r))
      ⊎ (HasData m r × CanSend m r tx (length staged) (descriptor_of m r)
      × (fetch_of m staged r tx ≡ data_outcome m staged r tx (descriptor_of m r)))

abbrev pub SlotLaw : Type 0
SlotLaw =
    (m : Memory) (staged : List ℕ) (r : Ring) (tx : Tx) (f : Fetched) → (fetch_of m staged r tx).answer ≡ Ok f
    → TakesSlot m staged r tx f

-- A queue's turn: the memory, the ring and the settings when a slot is fetched.
pub record Turn : Type 0 where
  pub memory : Memory
  pub ring : Ring
  pub tx : Tx

abbrev pub turn_of : Turn → List ℕ → Outcome
turn_of t staged = fetch_of t.memory staged t.ring t.tx

-- The bytes that a turn adds to a packet: the bytes in a data descriptor's buffer, or none for a context descriptor.
abbrev pub piece_of : Turn → List ℕ
piece_of t =
    if is_context (command_at t.memory t.ring) then [] else buffer_bytes t.memory (descriptor_of t.memory t.ring)

-- The bytes that the turns add to a packet, in order.
unfoldable pub pieces_of : List Turn → List ℕ
pieces_of [] = []
pieces_of (t ∷ ts) = piece_of t ++ pieces_of ts

-- The bytes that are staged after the turns.
unfoldable pub staged_after : List Turn → List ℕ → List ℕ
staged_after [] staged = staged
staged_after (t ∷ ts) staged = staged_after ts (turn_of t staged).staged

-- The turn's slot is fetched, and no packet ends with it.
abbrev pub GoesOn : Turn → List ℕ → Type 0
GoesOn t staged = (f : Fetched) × ((turn_of t staged).answer ≡ Ok f) × (f.frame ≡ None)

unfoldable pub GoOn : List Turn → List ℕ → Type 0
GoOn [] staged = ⊤
GoOn (t ∷ ts) staged = GoesOn t staged × GoOn ts (turn_of t staged).staged

-- The frame that is sent at the end of a packet consists of the bytes of the packet's data descriptors, in order. It is
-- padded with zeros to 60 bytes if short frames are padded when the last descriptor is fetched. Afterwards, no bytes
-- are staged.
abbrev pub PacketLaw : Type 0
PacketLaw =
    (turns : List Turn) (last : Turn) (f : Fetched) (frame : List ℕ) → GoOn turns []
    → (turn_of last (staged_after turns [])).answer ≡ Ok f → f.frame ≡ Some frame
    → (frame ≡ frame_of last.tx.pad (pieces_of turns ++ piece_of last))
    × ((turn_of last (staged_after turns [])).staged ≡ [])

-- What a driver reads at the write-back address. If the queue has a head write-back address, the driver reads the new
-- head there. Otherwise it reads the descriptor with its done bit set.
pub record ShowsReport (old new : Memory) (r : Ring) (tx : Tx) (f : Fetched) : Type 0 where
  pub head : (a : ℕ) → tx.writeback ≡ Some a → (f.back ≡ Some a) × (read_at new a 4 ≡ to_le_bytes w32 f.head)
  pub descriptor :
      tx.writeback ≡ None
      → (f.back ≡ Some (head_address r)) × (read_at new (head_address r) 16 ≡ done_descriptor (descriptor_of old r))

abbrev pub DriverReads : Type 0
DriverReads =
    (m : Memory) (staged : List ℕ) (r : Ring) (tx : Tx) (f : Fetched) → IsWhole m
    → (fetch_of m staged r tx).answer ≡ Ok f
    → IsTrue f.rs → ShowsReport m (fetch_of m staged r tx).memory r tx f

-- Outside the bytes that were written back, each byte, each read and each block is unchanged. If nothing was written
-- back, the memory is unchanged.
pub record ChangesOnlyReport (old new : Memory) (tx : Tx) (f : Fetched) : Type 0 where
  pub none : f.back ≡ None → new ≡ old
  pub bytes :
      (a at : ℕ) → f.back ≡ Some at → IsOutside a at (report_length tx.writeback) → byte_at new a ≡ byte_at old a
  pub reads :
      (a n at : ℕ) → f.back ≡ Some at → AreApart a n at (report_length tx.writeback) → read_at new a n ≡ read_at old a n
  pub blocks :
      (number at : ℕ) → f.back ≡ Some at → Avoids number at (report_length tx.writeback)
      → map.get new number ≡ map.get old number

abbrev pub WritesInsideReport : Type 0
WritesInsideReport =
    (m : Memory) (staged : List ℕ) (r : Ring) (tx : Tx) (f : Fetched) → (fetch_of m staged r tx).answer ≡ Ok f
    → ChangesOnlyReport m (fetch_of m staged r tx).memory tx f

-- Whether or not the slot is fetched, the same blocks remain lent, and each keeps its length of 2,048 bytes.
abbrev pub FetchKeepsBlocks : Type 0
FetchKeepsBlocks =
    (m : Memory) (staged : List ℕ) (r : Ring) (tx : Tx)
    → SameLent (fetch_of m staged r tx).memory m × (IsWhole m → IsWhole (fetch_of m staged r tx).memory)

-- Where a slot is reported. If RS is 0, the slot isn't reported. Otherwise the report goes to the head write-back
-- address in TDWBAH and TDWBAL or, if the queue has none, into the descriptor.
pub record ReportsAt (r : Ring) (tx : Tx) (f : Fetched) : Type 0 where
  pub none : IsFalse f.rs → f.back ≡ None
  pub head : (a : ℕ) → tx.writeback ≡ Some a → IsTrue f.rs → f.back ≡ Some a
  pub descriptor : tx.writeback ≡ None → IsTrue f.rs → f.back ≡ Some (head_address r)

abbrev pub ReportLaw : Type 0
ReportLaw =
    (m : Memory) (staged : List ℕ) (r : Ring) (tx : Tx) (f : Fetched) → (fetch_of m staged r tx).answer ≡ Ok f
    → ReportsAt r tx f

-- The ring's base is a multiple of 16, and the head write-back address is a multiple of 4. TDBAL ensures that the base
-- is a multiple of 128.
pub record IsAligned (r : Ring) (tx : Tx) : Type 0 where
  pub base : r.base % 16 ≡ 0
  pub writeback : (a : ℕ) → tx.writeback ≡ Some a → a % 4 ≡ 0

-- If the ring's base is a multiple of 16 and the head write-back address is a multiple of 4, the bytes written back are
-- within one block.
abbrev pub ReportsInOneBlock : Type 0
ReportsInOneBlock =
    (m : Memory) (staged : List ℕ) (r : Ring) (tx : Tx) (f : Fetched) (at : ℕ) → IsAligned r tx
    → (fetch_of m staged r tx).answer ≡ Ok f → f.back ≡ Some at → LiesIn (at / 2048) at (report_length tx.writeback)

-- If both halves of a descriptor are below 2^64, the done descriptor differs from its earlier value only in DD.
abbrev pub DoneChangesDoneAlone : Type 0
DoneChangesDoneAlone =
    (descriptor : List ℕ) → first_half descriptor < 2 ^ 64 → second_half descriptor < 2 ^ 64
    → (first_half (done_descriptor descriptor) ≡ first_half descriptor)
    × SetsDone (second_half descriptor) (second_half (done_descriptor descriptor))
