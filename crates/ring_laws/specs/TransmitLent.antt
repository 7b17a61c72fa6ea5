-- Each lent block of an arena was lent by its driver.
use Rattle.std.specs.Prelude.{⊤}
use Rattle.ring_laws.specs.Prelude.{Block, Blocks, Event, State, after, reply_to}
use Rattle.ring_laws.specs.TransmitPrelude.{Elsewhere, IsOwn, Move, Sender, has_lent, moved}
use Rattle.ring_laws.specs.Lent.{LendsNone, LendsOwn, OnlyLent, either}
use Rattle.ring_laws.specs.TransmitHealthy.{LendsAgain}

-- A call that isn't the sender's lends no block with one of these numbers.
abbrev pub SparesNumbers : Blocks → Move → Event Block → Type 0
SparesNumbers own Elsewhere e = LendsNone own e
SparesNumbers own other e = ⊤

-- Suppose that each lent block of a given set was lent by the sender or by others. This stays true through each of the
-- driver's own moves. If a move lends a block of the set that others haven't lent, the block isn't lent yet.
pub record OwnLendsAreKnown : Type 0 where
  pub kept :
      (own others : Blocks) (s : State) (v : Sender) (m : Move) (e : Event Block)
      → OnlyLent own (either (has_lent v) others) s.memory → IsOwn v m e → SparesNumbers own m e
      → OnlyLent own (either (has_lent (moved v m (reply_to s e))) others) (after s e).memory
  pub again :
      (own others : Blocks) (s : State) (v : Sender) (m : Move) (e : Event Block)
      → OnlyLent own (either (has_lent v) others) s.memory → IsOwn v m e → LendsOwn own others e → LendsAgain s m e
