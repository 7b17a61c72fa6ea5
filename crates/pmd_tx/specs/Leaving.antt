-- The blocks of a ring that is being closed.
use Rattle.std.specs.Prelude.{ℕ, List, take, drop, ◌++◌}
use Rattle.pmd_access.specs.Slots.{ring_blocks}
use Rattle.pmd_tx.specs.Sending.{Sender, blocks_of}

-- The blocks that the ring has lent: the lent blocks of outstanding segments, and the blocks that the ring occupies.
abbrev pub lent_of : Sender → List ℕ
lent_of v = blocks_of (take v.lent v.outstanding) ++ ring_blocks v.layout.ring v.layout.size

-- The blocks that the ring still has in hand because they wait to be lent.
abbrev pub waiting_of : Sender → List ℕ
waiting_of v = blocks_of (drop v.lent v.outstanding)
