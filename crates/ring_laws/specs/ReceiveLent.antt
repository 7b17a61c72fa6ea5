-- Which blocks the driver has lent for receiving.
use Rattle.ring_laws.specs.Prelude.{Block, Blocks, Event, State, after, reply_to}
use Rattle.ring_laws.specs.ReceivePrelude.{IsOwn, LendsAgain, Receive, drive}
use Rattle.pmd_rx.specs.Keeping.{has_lent}
use Rattle.ring_laws.specs.Lent.{LendsOwn, OnlyLent, either}

-- Suppose that each lent block of a given set was lent by the driver for receiving, or by others. This stays true
-- through each of the driver's own events. If the driver lends a block of the set that others haven't lent, the block
-- isn't lent yet.
pub record OwnLendsAreKnown : Type 0 where
  pub kept :
      (own others : Blocks) (s : State) (v : Receive) (e : Event Block)
      → OnlyLent own (either (has_lent v) others) s.memory → IsOwn v e
      → OnlyLent own (either (has_lent (drive v e (reply_to s e))) others) (after s e).memory
  pub again :
      (own others : Blocks) (s : State) (v : Receive) (e : Event Block)
      → OnlyLent own (either (has_lent v) others) s.memory → IsOwn v e → LendsOwn own others e → LendsAgain s e
