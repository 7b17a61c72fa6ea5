-- The parts of packets as the driver's code keeps them.
use Rattle.std.specs.Prelude.{ℕ, ◌+◌, ◌-◌, Bool, true, false, List, [], ◌∷◌, map, if◌then◌else◌}
use Rattle.pmd_tx.specs.declared.piece.Piece.{Piece}

-- The blocks of these pieces.
abbrev pub places_of : List Piece → List ℕ
places_of pieces = map (λ (p : Piece). p.block) pieces

-- The pieces that these blocks contain of a packet of `whole` bytes: the packet's last `len` bytes.
abbrev pub pieces_in : ℕ → List ℕ → ℕ → List Piece
pieces_in whole [] len = []
pieces_in whole (b ∷ []) len = record { block = b; len = len; whole = whole; last = true } ∷ []
pieces_in whole (b ∷ c ∷ blocks) len =
    record { block = b; len = 2048; whole = whole; last = false } ∷ pieces_in whole (c ∷ blocks) (len - 2048)

-- The index of the first piece that ends its packet.
abbrev pub first_last : List Piece → ℕ
first_last [] = 0
first_last (p ∷ pieces) = if p.last then 0 else first_last pieces + 1

-- Whether the newest piece ends its packet, or there is none.
abbrev pub ends_packet : List Piece → Bool
ends_packet [] = true
ends_packet (p ∷ []) = p.last
ends_packet (p ∷ q ∷ pieces) = ends_packet (q ∷ pieces)
