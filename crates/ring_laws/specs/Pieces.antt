-- The packets that consist of the pieces written on a queue.
pub use Rattle.ring_laws.specs.Segments.{Piece, no_piece, first_of, reported_pieces, pieces}
use Rattle.std.specs.Prelude.{[], if◌then◌else◌, ◌++◌, ◌+◌, ◌<◌, ◌∷◌, ◌≡◌, List, false, length, slice_index_or, ℕ, ⊤}
use Rattle.ring_laws.specs.ReceivePrelude.{Kept}
use Rattle.pmd_access.specs.NicDevice.DmaRing.Driver.{hash_in, rss_in}

-- A packet with these bytes, and with the RSS type and hash that the first half of its descriptor reports.
abbrev pub reported_packet : List ℕ → ℕ → Kept
reported_packet bytes first = record { bytes = bytes; rss = rss_in first; hash = hash_in first }

-- The packets that these pieces form: one packet ends after each piece that ends a frame. The first packet starts with
-- the bytes `front` of earlier pieces. Trailing pieces that don't end a frame are left out.
abbrev pub packets_after : List ℕ → List Piece → List Kept
packets_after front [] = []
packets_after front (p ∷ ps) =
    if p.end then reported_packet (front ++ p.bytes) p.first ∷ packets_after [] ps
    else packets_after (front ++ p.bytes) ps

abbrev pub packets_of : List Piece → List Kept
packets_of ps = packets_after [] ps

-- The number of pieces so far of a packet that hasn't ended. Before these pieces, `n` pieces of the packet were
-- written.
abbrev pub open_after : ℕ → List Piece → ℕ
open_after n [] = n
open_after n (p ∷ ps) = open_after (if p.end then 0 else n + 1) ps

-- This piece, which comes after `before` pieces of its packet, fits. A packet has at most `most` pieces, and each piece
-- except the last is 2,048 bytes long.
pub record Fits (most before : ℕ) (p : Piece) : Type 0 where
  pub full : p.end ≡ false → length p.bytes ≡ 2048
  pub more : p.end ≡ false → before + 1 < most

abbrev pub AllFit : ℕ → ℕ → List Piece → Type 0
AllFit most before [] = ⊤
AllFit most before (p ∷ ps) = Fits most before p × AllFit most (if p.end then 0 else before + 1) ps

abbrev pub piece_at : List Piece → ℕ → Piece
piece_at ps k = slice_index_or ps k no_piece
