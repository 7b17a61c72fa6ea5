-- The pieces that an event writes on a queue, and the frames that an event sends on a queue.
use Rattle.std.specs.Prelude.{[], if◌then◌else◌, ◌==◌, ◌∷◌, Bool, List, drop, false, length, map, take, ℕ}
use Rattle.ring_laws.specs.Prelude.{Block, Event, Filled, Reply, Rest, State, Waiting, Wrote, after, piece_of}
use Rattle.ring_laws.specs.Prelude.{reply_to}
use Rattle.device_lock.specs.NicDevice.{DmaRing.Receive.reported_of, Receive.packet_of}
use Rattle.device_lock.specs.NicDevice.declared.event.Event.TheVariants as event

-- What one step writes on a queue: the bytes, the first half of the descriptor, and whether the frame ends with this
-- piece.
pub record Piece : Type 0 where
  pub bytes : List ℕ
  pub first : ℕ
  pub end : Bool

abbrev pub no_piece : Piece
no_piece = record { bytes = []; first = 0; end = false }

-- The piece of the remaining frame that a filled slot takes.
abbrev pub piece_in : Rest → Filled → Piece
piece_in rest f = record { bytes = take f.len rest.bytes; first = rest.first; end = f.end }

-- The first half of the descriptor that is written back with a piece of the first waiting frame.
abbrev pub first_of : List Waiting → ℕ
first_of [] = 0
first_of (w ∷ others) = reported_of (packet_of w)

-- The piece of the first waiting frame that a reply reports as written on a queue.
abbrev pub reported_pieces : ℕ → List Waiting → Reply Block → List Piece
reported_pieces queue waiting (Wrote on slot end desc at len) =
    if on == queue then record { bytes = piece_of waiting len; first = first_of waiting; end = end } ∷ [] else []
reported_pieces queue waiting other = []

-- The pieces that one event writes on a queue: a receive step writes one piece or none, and no other event writes any.
abbrev pub pieces : ℕ → State → Event Block → List Piece
pieces queue s event.RxStep = reported_pieces queue s.waiting (reply_to s event.RxStep)
pieces queue s other = []

-- The frames appended to `old`.
abbrev pub frames_added : List (ℕ × List ℕ) → List (ℕ × List ℕ) → List (List ℕ)
frames_added old new = map (λ (f : ℕ × List ℕ). f.1) (drop (length old) new)

-- The frames that one event sends on a queue: only a step of that queue sends any, and at most one.
abbrev pub sent_by : ℕ → State → Event Block → List (List ℕ)
sent_by queue s (event.TxStep on) = if on == queue then frames_added s.out (after s (event.TxStep on)).out else []
sent_by queue s other = []
