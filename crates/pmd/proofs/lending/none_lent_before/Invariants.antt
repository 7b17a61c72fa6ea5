use Rattle.std.proofs.Common.{◌≡◌, drop}
use Rattle.pmd_driver.specs.DeviceLock.Watching.{marked}
use Rattle.pmd.specs.Before.{known_before}
use Rattle.pmd.specs.Lending.{lent_after, no_block}
use Rattle.pmd.proofs.lending.none_lent_before.Given as goal

abbrev pub invariant-loop-entry : goal.invariant-loop-entry
invariant-loop-entry l =
    known_before lent_after l.watched no_block l.from l.history
    ≡ known_before lent_after l.watched (marked l.lent) l.left (drop l.entry-index l.history)
