-- What the device and a driver agree on about the receive side of the driver's queue, between two events.
use Rattle.std.specs.Prelude.{[], ◌*◌, ◌++◌, ◌+◌, ◌<◌, ◌∷◌, ◌≡◌, ◌≢◌, ◌≤◌, IsFalse, IsTrue, List, false, length, true}
use Rattle.std.specs.Prelude.{ℕ, ⊤}
use Rattle.ring_laws.specs.Prelude.{Memory, Rdt, ReceiveQueue, Register, State, buffer_size_of, bytes_in}
use Rattle.ring_laws.specs.Prelude.{descriptor_type_of, ends_packet, first_half, has_block, is_done, named, place}
use Rattle.ring_laws.specs.Prelude.{read_at, receive_queue_of, second_half}
use Rattle.ring_laws.specs.ReceivePrelude.{EachRingBlock, Kept, Layout, Lent, Looks, Packet, Receive, Stage, Takes}
use Rattle.ring_laws.specs.ReceivePrelude.{Reported}
use Rattle.ring_laws.specs.ReceivePrelude.{block_at, blocks_for, descriptor_at, ended_of, is_ring_block, kept_of}
use Rattle.ring_laws.specs.ReceivePrelude.{left_of}
use Rattle.ring_laws.specs.ReceivePrelude.{no_packet, reach, records_of, slot_at, vacant}
use Rattle.pmd_rx.specs.declared.ring.Stage.TheVariants.{Owes}
use Rattle.pmd_access.specs.Bufs.{bytes_of}
use Rattle.ring_laws.specs.Pieces.{Piece, open_after, packets_after, packets_of, piece_at}

-- The descriptor at `a` is posted: it names this block, which is lent, and it isn't done.
pub record IsPosted (m : Memory) (a block : ℕ) : Type 0 where
  pub buffer : first_half (read_at m a 16) ≡ 2048 * block
  pub waits : IsFalse (is_done (second_half (read_at m a 16)))
  pub there : IsTrue (has_block m block)

-- The descriptor at `a` was written back for piece `p`, whose bytes are at the start of the block.
pub record IsFilled (m : Memory) (a block : ℕ) (p : Piece) : Type 0 where
  pub done : IsTrue (is_done (second_half (read_at m a 16)))
  pub end : ends_packet (second_half (read_at m a 16)) ≡ p.end
  pub len : bytes_in (second_half (read_at m a 16)) ≡ length p.bytes
  pub first : first_half (read_at m a 16) ≡ p.first
  pub bytes : read_at m (2048 * block) (length p.bytes) ≡ p.bytes
  pub short : length p.bytes ≤ 2048
  pub there : IsTrue (has_block m block)

-- The ring is in consecutive blocks and has at least one vacant slot. The blocks of its slots are all distinct, and
-- none of them is one of the blocks that the ring occupies.
pub record IsRing (l : Layout) : Type 0 where
  pub some : 0 < l.size
  pub few : l.size ≤ 1024
  pub next : l.next < l.size
  pub ring : l.ring + blocks_for l.size ≤ 65536
  pub room : length l.blocks < l.size
  pub low : (k : ℕ) → k < length l.blocks → block_at l k < 65536
  pub not_ring : (k : ℕ) → k < length l.blocks → is_ring_block l.ring l.size (block_at l k) ≡ false
  pub apart : (i j : ℕ) → i < length l.blocks → j < length l.blocks → i ≢ j → block_at l i ≢ block_at l j

-- The queue's receive side is set up for the driver, with one 2,048-byte buffer for each descriptor. `filled` slots are
-- filled but not yet consumed. The side may be on or off.
pub record IsSetUp (q : ReceiveQueue) (l : Layout) (filled : ℕ) : Type 0 where
  pub one_buffer : descriptor_type_of q.control ≡ 1
  pub buffer_size : buffer_size_of q.control ≡ 2048
  pub base : q.ring.base ≡ 2048 * l.ring
  pub sized : q.ring.length ≡ 16 * l.size
  pub head : q.ring.head ≡ slot_at l filled
  pub tail : q.ring.tail ≡ slot_at l (vacant l)

-- At the driver's port, the driver's number for the tail identifies the queue's tail register.
pub record IsNamed (s : State) (queue : ℕ) (l : Layout) : Type 0 where
  pub low : queue < 128
  pub tail : named s l.port l.tail ≡ Register (place Rdt queue) 0xFFFFFFFF

-- A lent block that no descriptor names yet.
pub record IsLoose (m : Memory) (l : Layout) (block : ℕ) : Type 0 where
  pub low : block < 65536
  pub not_ring : is_ring_block l.ring l.size block ≡ false
  pub apart : (k : ℕ) → k < length l.blocks → block_at l k ≢ block
  pub room : length l.blocks + 1 < l.size
  pub there : IsTrue (has_block m block)

abbrev pub StageHolds : Memory → Layout → Stage → Type 0
StageHolds m l (Lent b) = IsLoose m l b
StageHolds m l other = ⊤

-- Among the slots that have a block, starting at the next slot, the first are filled with these pieces and the later
-- ones are posted. Nothing is said about the other slots, which are consumed or vacant.
pub record HasSlots (m : Memory) (l : Layout) (here : List Piece) : Type 0 where
  pub there : EachRingBlock l.ring l.size (λ b. IsTrue (has_block m b))
  pub within : length here ≤ length l.blocks
  pub filled : (k : ℕ) → k < length here → IsFilled m (descriptor_at l k) (block_at l k) (piece_at here k)
  pub posted : (k : ℕ) → length here ≤ k → k < length l.blocks → IsPosted m (descriptor_at l k) (block_at l k)

-- What the driver read in a slot's descriptor describes this piece.
pub record Saw (t : Reported) (p : Piece) : Type 0 where
  pub first_is : t.first ≡ p.first
  pub len_is : bytes_in t.second ≡ length p.bytes
  pub end_is : ends_packet t.second ≡ p.end

abbrev pub AreSeen : List Reported → List Piece → Type 0
AreSeen [] ps = ⊤
AreSeen (t ∷ ts) [] = ⊥
AreSeen (t ∷ ts) (p ∷ ps) = Saw t p × AreSeen ts ps

-- A part that fills its block and doesn't end its packet.
pub record IsOpen (t : Reported) : Type 0 where
  pub goes_on : ends_packet t.second ≡ false
  pub full : bytes_in t.second ≡ 2048

abbrev pub AreOpen : List Reported → Type 0
AreOpen [] = ⊤
AreOpen (t ∷ ts) = IsOpen t × AreOpen ts

-- These are the last parts of a packet, possibly none. Only the last of them ends the packet.
abbrev pub EndLast : List Reported → Type 0
EndLast [] = ⊤
EndLast (t ∷ []) = ends_packet t.second ≡ true
EndLast (t ∷ u ∷ ts) = IsOpen t × EndLast (u ∷ ts)

-- While the driver polls, it holds no part of a packet and hasn't seen the packet's end. At any other stage, the driver
-- has seen where the packet ends.
abbrev pub IsAt : Stage → List Reported → Packet → Type 0
IsAt Looks seen held = (held ≡ no_packet) × AreOpen seen
IsAt Takes seen held = EndLast seen
IsAt Owes seen held = EndLast seen
IsAt (Lent b) seen held = EndLast seen

-- The packet that the driver holds while parts of the packet are still to be taken; otherwise an empty packet.
abbrev pub still_held : Receive → Packet
still_held v = left_of v.seen v.held

-- The packets that the driver returned, the complete packets, and the packet whose last part was taken.
abbrev pub packets_had : Receive → List Kept
packets_had v = v.handed ++ records_of (v.whole ++ ended_of v.seen v.held)

-- The consumed pieces form the packets in `packets_had`, followed by the parts of the held packet, if any. Later pieces
-- are cut into packets as a continuation of these parts.
abbrev pub AreCut : List Piece → Receive → Type 0
AreCut gone v =
    (rest : List Piece)
    → packets_of (gone ++ rest) ≡ packets_had v ++ packets_after (kept_of (still_held v)).bytes rest

-- The pieces written on the queue since its receive side was enabled: the consumed pieces, followed by the pieces in
-- slots. The driver has seen the first of the pieces in slots. The taken parts of a packet that isn't complete fill
-- their blocks.
pub record InOrder (out : List Piece) (v : Receive) (gone here : List Piece) : Type 0 where
  pub cut : AreCut gone v
  pub parts : open_after 0 gone ≡ length (still_held v).bufs
  pub full : length (bytes_of (still_held v).bufs) ≡ (still_held v).len
  pub seen : AreSeen v.seen here
  pub stage : IsAt v.stage v.seen v.held
  pub order : out ≡ gone ++ here

-- The device and the driver agree, with the pieces `gone` consumed and the pieces `here` in slots. The slots after the
-- tail whose descriptors name a block are in the same state as posted slots, and none of them is filled.
pub record Holds (queue : ℕ) (s : State) (out : List Piece) (v : Receive) (gone here : List Piece) : Type 0 where
  pub named : IsNamed s queue v.layout
  pub ring : IsRing (reach v)
  pub side : IsSetUp (receive_queue_of s.registers queue) v.layout (length here)
  pub posted : length here ≤ length v.layout.blocks
  pub slots : HasSlots s.memory (reach v) here
  pub stage : StageHolds s.memory (reach v) v.stage
  pub order : InOrder out v gone here

-- The device and the driver agree on the queue. `out` lists the pieces written since its receive side was enabled.
abbrev pub Agree : ℕ → State → List Piece → Receive → Type 0
Agree queue s out v = (gone : List Piece) × (here : List Piece) × Holds queue s out v gone here
