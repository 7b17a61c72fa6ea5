-- The number of outcomes that the workers return.
use Rattle.std.proofs.Common.{◌≡◌, suc, List, [], ◌∷◌, length, refl, ap}
use Rattle.pmd.specs.declared.job.Job.{Job}
use Rattle.pmd.specs.Ends.{AreEnds}
use Rattle.pmd.specs.declared.ends.WorkerEnd.{WorkerEnd}

-- The workers return one outcome for each job.
pub ends_count : (jobs : List Job) (ends : List WorkerEnd) → AreEnds jobs ends → length ends ≡ length jobs
ends_count [] [] are = refl
ends_count (j ∷ jobs) (e ∷ ends) are = ap suc (ends_count jobs ends are.1)
ends_count [] (e ∷ ends) are = absurd are
ends_count (j ∷ jobs) [] are = absurd are
