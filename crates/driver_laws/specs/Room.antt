-- When an arena has room for a driver's rings.
use Rattle.std.specs.Prelude.{ℕ, ◌≡◌, ◌↔◌, ◌+◌, ◌<◌, ◌≤◌, true, is_some}
use Rattle.driver_laws.specs.StartPrelude.{Numbers}
use Rattle.pmd_driver.specs.NicDevice.DmaArena.Run.{IsFreeRun}
use Rattle.pmd_driver.specs.Runs.{second_run}

-- Two disjoint runs of `count` free blocks each.
pub record HasTwoRuns (a : Numbers) (count : ℕ) : Type 0 where
  pub first : ℕ
  pub second : ℕ
  pub one : IsFreeRun a first count
  pub two : IsFreeRun a second count
  pub apart : first + count ≤ second

-- Let `count` be at least 1. A start finds two runs of `count` free blocks exactly if there are two such runs that
-- share no block.
abbrev pub TwoRunsAreFound : Type 0
TwoRunsAreFound =
    (a : Numbers) (count : ℕ) → 0 < count → (is_some (second_run a count) ≡ true) ↔ HasTwoRuns a count
