-- If the device and the driver agree, the replies to the driver's own moves are those of a healthy queue.
use Rattle.std.specs.Prelude.{IsFalse, IsTrue, List, ℕ, ⊤}
use Rattle.ring_laws.specs.Prelude.{Block, Event, State, has_block, reply_to}
use Rattle.ring_laws.specs.TransmitPrelude.{Elsewhere, IsOwn, Move, Sender}
use Rattle.pmd_tx.specs.Sending.{is_healthy}
use Rattle.ring_laws.specs.Agreeing.{Agrees}
use Rattle.pmd_access.specs.NicDevice.declared.event.Event.TheVariants as event

-- A block that one of the driver's own moves lends isn't lent yet.
abbrev pub LendsAgain : State → Move → Event Block → Type 0
LendsAgain s Elsewhere e = ⊤
LendsAgain s m (event.Lend b) = IsFalse (has_block s.memory b.number)
LendsAgain s m other = ⊤

-- If the device and the driver agree and a block to be lent isn't lent yet, each of the driver's own moves gets a
-- healthy reply.
abbrev pub OwnRepliesAreHealthy : Type 0
OwnRepliesAreHealthy =
    (s : State) (queue : ℕ) (sent : List (List ℕ)) (v : Sender) (m : Move) (e : Event Block) → Agrees s queue sent v →
    IsOwn v m e → LendsAgain s m e → IsTrue (is_healthy m (reply_to s e))
