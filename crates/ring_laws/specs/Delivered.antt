-- The packets that a history delivers on a queue.
use Rattle.std.specs.Prelude.{[], if◌then◌else◌, ◌&&◌, ◌++◌, ◌∷◌, ◌≡◌, Bool, List, None, Option, Some, not, option_map}
use Rattle.std.specs.Prelude.{ℕ}
use Rattle.ring_laws.specs.Prelude.{Entry, Rx, State, after, is_on}
use Rattle.ring_laws.specs.ReceivePrelude.{Kept}
use Rattle.ring_laws.specs.Pieces.{Piece, packets_of, pieces}

-- The pieces that a history that begins in this state writes on a queue.
abbrev pub pieces_in : ℕ → State → List Entry → List Piece
pieces_in queue s [] = []
pieces_in queue s (e ∷ es) = pieces queue s e.event ++ pieces_in queue (after s e.event) es

-- Whether the receive side of a queue becomes enabled from one state to the next.
abbrev pub goes_on : ℕ → State → State → Bool
goes_on queue s t = not (is_on s.registers Rx queue) && is_on t.registers Rx queue

-- The pieces so far after one more event: none yet if the event enables the side.
abbrev pub gathered : ℕ → State → State → List Piece → Option (List Piece) → Option (List Piece)
gathered queue s t ps so_far = if goes_on queue s t then Some [] else option_map (λ qs. qs ++ ps) so_far

-- The pieces since the side was last enabled; `None` if the side wasn't enabled.
abbrev pub pieces_since : ℕ → State → Option (List Piece) → List Entry → Option (List Piece)
pieces_since queue s so_far [] = so_far
pieces_since queue s so_far (e ∷ es) =
    let t = after s e.event in
    pieces_since queue t (gathered queue s t (pieces queue s e.event) so_far) es

abbrev pub packets_if_any : Option (List Piece) → List Kept
packets_if_any None = []
packets_if_any (Some ps) = packets_of ps

-- The packets that a history delivers on a queue, counted since the queue's receive side was last enabled. The bytes
-- written, in order, are cut into packets after each piece that ends a frame. Trailing pieces that don't end a frame
-- are left out.
abbrev pub delivered : ℕ → State → List Entry → List Kept
delivered queue s h = packets_if_any (pieces_since queue s None h)

-- `xs` is a prefix of `ys`.
abbrev pub IsPrefixOf : List Kept → List Kept → Type 0
IsPrefixOf xs ys = (rest : List Kept) × (xs ++ rest ≡ ys)
