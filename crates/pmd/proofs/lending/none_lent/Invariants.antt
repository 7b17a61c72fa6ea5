use Rattle.std.proofs.Common.{◌≡◌, ◌+◌, ◌-◌}
use Rattle.pmd_driver.specs.DeviceLock.Watching.{marked, none_of}
use Rattle.pmd.proofs.lending.none_lent.Given as goal

abbrev pub invariant-loop-after : goal.invariant-loop-after
invariant-loop-after l =
    none_of (marked l.lent) l.fn.first l.count ≡ none_of (marked l.lent) (l.fn.first + l.after) (l.count - l.after)
