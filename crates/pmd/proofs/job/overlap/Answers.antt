use Rattle.std.proofs.Common.{arith}
use Rattle.pmd.specs.Overlap.{SharesEarlier}
use Rattle.pmd.proofs.Sharing.{job_there, none_more, not_both}
use Rattle.pmd.proofs.job.overlap.Goals as goal

pub loop-at-preserved : goal.loop-at-preserved
loop-at-preserved c =
    none_more (SharesEarlier c.args.jobs.now) c.loop-at.at c.loop-at.invariant
    (λ s. not_both c.shares_earlier.result c.if-shares_earlier.false (c.shares_earlier.ensures.1 s))

pub returns-clause-none : goal.returns-clause-none
returns-clause-none c n (earlier, before, s) =
    c.loop-at.invariant n (omega (arith, job_there c.args.jobs.now n s.0 s.2, c.loop-at-test.false))
    (earlier, before, s)

pub returns-then-shares_earlier-clause-none : goal.returns-then-shares_earlier-clause-none
returns-then-shares_earlier-clause-none c = tt
