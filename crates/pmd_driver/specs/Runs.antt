-- Where in the arena a driver's rings are placed.
use Rattle.std.specs.Prelude.{ℕ, ◌+◌, ◌≤◌, Option, Some, None}
use Rattle.pmd_access.specs.NicDevice.DmaArena.Numbers.{Numbers}
use Rattle.pmd_access.specs.NicDevice.DmaArena.Run.{lowest_run, run_in, IsFreeRun}

-- The lowest run of `count` free blocks after another run, if there is one.
abbrev pub run_after : Numbers → ℕ → Option ℕ → Option ℕ
run_after a count None = None
run_after a count (Some ring) = lowest_run a count (ring + count)

-- The lowest run after the lowest one.
abbrev pub second_run : Numbers → ℕ → Option ℕ
second_run a count = run_after a count (run_in a count)

-- Two runs of free blocks in the arena, one after the other.
pub record AreRuns (a : Numbers) (count first second : ℕ) : Type 0 where
  pub one : IsFreeRun a first count
  pub two : IsFreeRun a second count
  pub apart : first + count ≤ second
  pub low : second + count ≤ 65536
