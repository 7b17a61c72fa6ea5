use Rattle.std.proofs.Common.{ℕ, refl, arith}
use Rattle.pmd.specs.Overlap.{Share, arena_at}
use Rattle.pmd.proofs.Sharing.{they_share, shared_there, none_more, not_both}
use Rattle.pmd.proofs.job.shares_earlier.Goals as goal

pub returns-then-share : goal.returns-then-share
returns-then-share c = (
  λ yes. (
    c.loop-earlier.earlier,
    c.loop-earlier-test.true,
    they_share c.args.jobs.now c.loop-earlier.earlier c.args.at c.index-jobs-earlier.result c.index-jobs-at.result
        (omega (arith, c.loop-earlier-test.true, c.requires)) c.requires
        (c.share.ensures.0 c.if-share.true),
  ),
  λ s. refl,
)

pub loop-earlier-preserved : goal.loop-earlier-preserved
loop-earlier-preserved c =
    none_more (λ (n : ℕ). Share (arena_at c.args.jobs.now n) (arena_at c.args.jobs.now c.args.at))
    c.loop-earlier.earlier
    c.loop-earlier.invariant
    (λ s. not_both c.share.result c.if-share.false
    (c.share.ensures.1 (shared_there c.args.jobs.now c.loop-earlier.earlier
    c.args.at c.index-jobs-earlier.result c.index-jobs-at.result
    (omega (arith, c.loop-earlier-test.true, c.requires)) c.requires s)))

pub returns : goal.returns
returns c = (
  λ no. absurd cc,
  λ (earlier, before, s).
      absurd (c.loop-earlier.invariant earlier (omega (arith, before, c.loop-earlier-test.false)) s),
)
