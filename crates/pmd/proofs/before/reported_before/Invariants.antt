use Rattle.std.proofs.Common.{◌≡◌, drop}
use Rattle.pmd.specs.Before.{first_reported, reported_before}
use Rattle.pmd.proofs.before.reported_before.Given as goal

abbrev pub invariant-loop-entry : goal.invariant-loop-entry
invariant-loop-entry l =
    reported_before l.watched first_reported l.from l.history
    ≡ reported_before l.watched l.reported l.left (drop l.entry-index l.history)
