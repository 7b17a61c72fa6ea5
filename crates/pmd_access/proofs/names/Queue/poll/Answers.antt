use Rattle.std.proofs.Common.{◌∙◌}
use Rattle.pmd_access.proofs.Polling.{polled_here, missed_next}
use Rattle.pmd_access.proofs.names.Queue.poll.Goals as goal

pub returns-then-branch-on-clause-made : goal.returns-then-branch-on-clause-made
returns-then-branch-on-clause-made g c =
    polled_here c.args.self.now (g.N.Nic.made c.args.nic.now) (g.N.Nic.made c.loop-misses.nic)
    (g.N.Nic.made c.is_on.new.nic) c.args.side c.args.on _ c.loop-misses.misses c.args.polls c.loop-misses-test.true
    c.loop-misses.invariant.1 c.in_ok-is_on.ensures.seen c.if-branch-on.true

pub loop-misses-preserved : goal.loop-misses-preserved
loop-misses-preserved g c = (
  λ o is. c.is_on.ensures.began o (c.loop-misses.invariant.0 o is),
  missed_next c.args.self.now (g.N.Nic.made c.args.nic.now) (g.N.Nic.made c.loop-misses.nic)
      (g.N.Nic.made c.is_on.new.nic) c.args.side c.args.on _ c.loop-misses.misses c.loop-misses.invariant.1
      c.in_ok-is_on.ensures.seen c.if-branch-on.false,
  c.is_on.ensures.refuses ∙ c.loop-misses.invariant.2,
)
