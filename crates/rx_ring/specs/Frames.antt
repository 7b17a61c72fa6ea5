-- What a driver reads after successive fills write a frame.
use Rattle.std.specs.Prelude.{ℕ, ◌≡◌, ◌↔◌, ◌<◌, ◌^◌, Bool, if◌then◌else◌, IsTrue, List, [], ◌∷◌, ◌++◌, drop, All, Result, Ok, Err}
use Rattle.dma_arena.specs.Memory.{Memory, read_at, IsWhole, AreApart}
use Rattle.dma_ring.specs.declared.ring.Ring.{Ring}
use Rattle.dma_ring.specs.declared.fault.RingFault.{RingFault}
use Rattle.dma_ring.specs.Descriptor.{first_half, second_half}
use Rattle.dma_ring.specs.Receive.{ends_packet, bytes_in}
use Rattle.rx_ring.specs.declared.filled.Filled.{Filled}
use Rattle.rx_ring.specs.Control.{buffer_size_of}
use Rattle.rx_ring.specs.Fill.{Rest, Outcome, head_address, buffer_address, fill_of}

-- A queue's turn: the memory, the ring and SRRCTL when a slot is filled.
pub record Turn : Type 0 where
  pub memory : Memory
  pub ring : Ring
  pub srrctl : ℕ

abbrev pub turn_of : Turn → Rest → Outcome
turn_of t rest = fill_of t.memory t.ring t.srrctl rest

-- The turn's blocks are whole, and its buffer doesn't overlap its descriptor.
pub record IsSound (t : Turn) : Type 0 where
  pub whole : IsWhole t.memory
  pub apart : AreApart (buffer_address t.memory t.ring) (buffer_size_of t.srrctl) (head_address t.ring) 16

-- A piece of a frame: its bytes, the descriptor's first half, which reports the packet, and whether the packet ends.
pub record Piece : Type 0 where
  pub bytes : List ℕ
  pub first : ℕ
  pub end : Bool

-- The piece that a driver reads from a slot: as many bytes of the buffer as the descriptor reports.
abbrev pub piece_at : Memory → Filled → Piece
piece_at m f = record {
  bytes = read_at m f.at (bytes_in (second_half (read_at m f.desc 16)));
  first = first_half (read_at m f.desc 16);
  end = ends_packet (second_half (read_at m f.desc 16));
}

-- The remaining bytes of a frame after `len` more bytes are written.
abbrev pub rest_after : Rest → ℕ → Rest
rest_after rest len = record rest { bytes = drop len rest.bytes }

-- The piece of a filled slot, followed by more pieces if the frame doesn't end. A fault ends the list.
abbrev pub pieces_from : Memory → (Filled → List Piece) → Result Filled RingFault → List Piece
pieces_from m more (Ok f) = piece_at m f ∷ (if f.end then [] else more f)
pieces_from m more (Err fault) = []

-- The pieces that a driver reads when the turns fill slots with a frame. The driver reads each piece right after its
-- turn.
unfoldable pub pieces_of : Rest → List Turn → List Piece
pieces_of rest [] = []
pieces_of rest (t ∷ ts) =
    pieces_from (turn_of t rest).memory (λ f. pieces_of (rest_after rest f.len) ts) (turn_of t rest).answer

-- The bytes of the pieces, in order.
unfoldable pub joined : List Piece → List ℕ
joined [] = []
joined (p ∷ ps) = p.bytes ++ joined ps

-- The piece reports the frame's first half, as every piece does. It has EOP if and only if it completes the frame, and
-- then no piece follows.
pub record IsPieceOf (frame : Rest) (before : List Piece) (p : Piece) (after : List Piece) : Type 0 where
  pub reported : p.first ≡ frame.first
  pub end : IsTrue p.end ↔ (joined before ++ p.bytes ≡ frame.bytes)
  pub last : IsTrue p.end → after ≡ []

-- The joined pieces are a prefix of the frame.
pub record MakeFrame (frame : Rest) (pieces : List Piece) : Type 0 where
  pub bytes : (left : List ℕ) × (joined pieces ++ left ≡ frame.bytes)
  pub each :
      (before : List Piece) (p : Piece) (after : List Piece) → pieces ≡ before ++ p ∷ after
      → IsPieceOf frame before p after

-- The pieces that a driver reads, joined in order, are a prefix of the frame. This requires that, at every fill, each
-- lent block is whole and the buffer doesn't overlap its descriptor. It also requires that the first half is below
-- 2^64. A piece has EOP if and only if it completes the frame, and then no piece follows. Each piece's descriptor has
-- the same first half, which reports the packet.
abbrev pub PiecesMakeFrame : Type 0
PiecesMakeFrame =
    (turns : List Turn) (frame : Rest) → All IsSound turns → frame.first < 2 ^ 64
    → MakeFrame frame (pieces_of frame turns)
