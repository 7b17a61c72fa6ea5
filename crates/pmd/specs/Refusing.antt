-- Why no worker starts.
use Rattle.std.specs.Prelude.{◌≡◌, ℕ, ◌&&◌, nat_le, Bool, true, false, List, length}
use Rattle.pmd.specs.Overlap.{SharesEarlier, IsFirstToShare}
use Rattle.pmd.specs.declared.job.Job.{Job}
use Rattle.pmd.specs.declared.ends.RunFault.{RunFault}
use Rattle.pmd.specs.declared.ends.RunFault.TheVariants.{NoJobs, Overlap, OutOfMemory}

-- Whether this number of jobs is permitted.
abbrev pub is_team_size : ℕ → Bool
is_team_size count = nat_le 1 count && nat_le count 16

-- Jobs that can run: the number of jobs is permitted, and no two arenas share a block number.
pub record IsTeam (jobs : List Job) : Type 0 where
  pub size : is_team_size (length jobs) ≡ true
  pub apart : (at : ℕ) → ¬ SharesEarlier jobs at

-- No worker starts, for the first of these reasons that holds: the number of jobs isn't permitted (`NoJobs`), the job
-- at this index is the first whose arena shares a block number with an earlier job's arena (`Overlap`), or memory ran
-- out (`OutOfMemory`).
abbrev pub IsWhy : List Job → RunFault → Type 0
IsWhy jobs NoJobs = is_team_size (length jobs) ≡ false
IsWhy jobs (Overlap at) = (is_team_size (length jobs) ≡ true) × IsFirstToShare jobs at
IsWhy jobs OutOfMemory = IsTeam jobs

-- Whether the reason applies regardless of memory.
abbrev pub is_certain : RunFault → Bool
is_certain OutOfMemory = false
is_certain other = true
