use Rattle.std.proofs.Common.{ℕ, ◌<◌}
use Rattle.pmd.specs.Overlap.{SharesEarlier}
use Rattle.pmd.proofs.job.overlap.Given as goal

abbrev pub invariant-loop-at : goal.invariant-loop-at
invariant-loop-at l = (before : ℕ) → before < l.at → ¬ SharesEarlier l.jobs before
