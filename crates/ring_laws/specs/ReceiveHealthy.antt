-- If the device and the driver agree, the replies to the driver's own events are those of a healthy queue.
use Rattle.std.specs.Prelude.{IsTrue, List, ℕ}
use Rattle.ring_laws.specs.Prelude.{Block, Event, State, reply_to}
use Rattle.ring_laws.specs.ReceivePrelude.{IsOwn, LendsAgain, Receive}
use Rattle.pmd_rx.specs.Wrong.{is_healthy}
use Rattle.ring_laws.specs.{Joint.Agree, Pieces.AllFit, Pieces.Piece}

-- If the device and the driver agree, each of the driver's own events gets a healthy reply under two conditions. First,
-- no written packet has more pieces than the driver takes, and each piece except a packet's last is 2,048 bytes long.
-- Second, a block that the event lends isn't lent yet.
abbrev pub OwnRepliesAreHealthy : Type 0
OwnRepliesAreHealthy =
    (queue : ℕ) (s : State) (out : List Piece) (v : Receive) (e : Event Block) → Agree queue s out v →
    AllFit v.layout.most 0 out → IsOwn v e → LendsAgain s e → IsTrue (is_healthy v e (reply_to s e))
