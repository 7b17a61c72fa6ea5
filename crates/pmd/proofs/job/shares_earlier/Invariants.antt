use Rattle.std.proofs.Common.{ℕ, ◌<◌}
use Rattle.pmd.specs.Overlap.{Share, arena_at}
use Rattle.pmd.proofs.job.shares_earlier.Given as goal

abbrev pub invariant-loop-earlier : goal.invariant-loop-earlier
invariant-loop-earlier l =
    (before : ℕ) → before < l.earlier → ¬ Share (arena_at l.jobs before) (arena_at l.jobs l.at)
