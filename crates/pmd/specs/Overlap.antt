-- Arenas that share a block number.
use Rattle.std.specs.Prelude.{◌≡◌, ℕ, zero, suc, ◌<◌, true, List, [], ◌∷◌}
use Rattle.pmd_driver.specs.NicDevice.DmaArena.Numbers.{Numbers, is_own}
use Rattle.pmd.specs.declared.job.Job.{Job}

-- The arena of the job at this index. Beyond the last job, this is an arena that owns no number.
abbrev pub arena_at : List Job → ℕ → Numbers
arena_at [] at = record { first = 0; free = [] }
arena_at (j ∷ jobs) zero = j.arena
arena_at (j ∷ jobs) (suc at) = arena_at jobs at

-- Both arenas own some number.
abbrev pub Share : Numbers → Numbers → Type 0
Share a b = (number : ℕ) × (is_own a number ≡ true) × (is_own b number ≡ true)

-- The job's arena shares a block number with an earlier job's arena.
abbrev pub SharesEarlier : List Job → ℕ → Type 0
SharesEarlier jobs at = (earlier : ℕ) × (earlier < at) × Share (arena_at jobs earlier) (arena_at jobs at)

-- This is the first job whose arena shares a block number with an earlier job's arena.
pub record IsFirstToShare (jobs : List Job) (at : ℕ) : Type 0 where
  pub shares : SharesEarlier jobs at
  pub first : (before : ℕ) → before < at → ¬ SharesEarlier jobs before
