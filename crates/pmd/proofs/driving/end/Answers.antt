use Rattle.std.proofs.Common.{subst}
use Rattle.pmd_driver.specs.Blocks.{IsWhole}
use Rattle.pmd_driver.specs.declared.start.Rest.{Rest}
use Rattle.pmd.proofs.driving.end.Goals as goal

pub returns-in-Running-clause-whole : goal.returns-in-Running-clause-whole
returns-in-Running-clause-whole g c a whole =
    c.take_home-left.ensures.whole a (subst (λ (r : Rest). IsWhole a r) c.in-Running.is whole)
