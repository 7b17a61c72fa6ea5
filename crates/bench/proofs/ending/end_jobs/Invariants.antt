use Rattle.bench.proofs.ending.end_jobs.Given as goal

abbrev pub decreases-loop-job : goal.decreases-loop-job
decreases-loop-job l = goal.left-loop-job l
