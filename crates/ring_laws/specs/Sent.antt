-- The frames that a queue sends, counted since its transmit side was last enabled.
pub use Rattle.ring_laws.specs.Segments.{frames_added, sent_by}
use Rattle.std.specs.Prelude.{[], if◌then◌else◌, ◌&&◌, ◌++◌, ◌∷◌, Bool, List, not, ℕ}
use Rattle.ring_laws.specs.Prelude.{Block, Entry, Event, State, Tx, after, is_on}

-- The frames that the entries of a history that begins in this state send on a queue.
abbrev pub sent_in : ℕ → State → List Entry → List (List ℕ)
sent_in queue s [] = []
sent_in queue s (e ∷ es) = sent_by queue s e.event ++ sent_in queue (after s e.event) es

-- Whether an event enables the transmit side of a queue.
abbrev pub goes_on : ℕ → State → Event Block → Bool
goes_on queue s e = not (is_on s.registers Tx queue) && is_on (after s e).registers Tx queue

-- The frames that are counted after an event: the count starts fresh if the event enables the side.
abbrev pub counted_by : ℕ → State → Event Block → List (List ℕ) → List (List ℕ)
counted_by queue s e sent = if goes_on queue s e then [] else sent ++ sent_by queue s e

-- The frames that a history sends, counted since the side was last enabled. If the history doesn't enable the side, the
-- frames counted before the history are included.
abbrev pub sent_since : ℕ → State → List (List ℕ) → List Entry → List (List ℕ)
sent_since queue s sent [] = sent
sent_since queue s sent (e ∷ es) = sent_since queue (after s e.event) (counted_by queue s e.event sent) es
