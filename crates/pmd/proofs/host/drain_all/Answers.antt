use Rattle.std.proofs.Common.{arith}
use Rattle.pmd.proofs.Coming.{drained_more}
use Rattle.pmd.proofs.host.drain_all.Goals as goal

pub loop-collector-preserved : goal.loop-collector-preserved
loop-collector-preserved c =
    drained_more c.args.collectors.now c.loop-collector.collectors c.loop-collector.collector-index
    c.collector-item.result c.drain.new.self
    (omega (arith, c.loop-collector-test.true, c.loop-collector.auto.collectors)) c.loop-collector.invariant
    (c.drain.ensures.ring, c.drain.ensures.room)
