use Rattle.intr_unit.proofs.Due.{lowest_of-remaining}
use Rattle.intr_unit.proofs.causes.Causes.next_bit.Goals as goal

pub returns-clause-bit : goal.returns-clause-bit
returns-clause-bit c =
    rw (
      c.lowest.ensures.bit,
      c.intersection-2.ensures,
      c.routed_bits.ensures,
      c.difference.ensures,
      c.intersection.ensures,
      ← c.self.view_is,
    )
    (lowest_of-remaining _ _)
