use Rattle.std.proofs.Common.{refl}
use Rattle.pmd_tx.proofs.Fields.{fresh_ring}
use Rattle.pmd_tx.proofs.ring.TransmitRing.new.Goals as goal

pub invariant_of-result : goal.invariant_of-result
invariant_of-result c =
    rw (c.new.ensures.items, c.none.ensures, c.new-2.ensures.items)
    (fresh_ring _ c.requires.some c.requires.few refl c.requires.ring c.requires.least c.requires.limit)
