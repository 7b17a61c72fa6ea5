use Rattle.std.proofs.Common.{◌≡◌, drop}
use Rattle.pmd.specs.Before.{known_before}
use Rattle.pmd.specs.Fitting.{longest_after}
use Rattle.pmd.proofs.fitting.longest_before.Given as goal

abbrev pub invariant-loop-entry : goal.invariant-loop-entry
invariant-loop-entry l =
    known_before longest_after l.watched 0 l.from l.history
    ≡ known_before longest_after l.watched l.longest l.left (drop l.entry-index l.history)
