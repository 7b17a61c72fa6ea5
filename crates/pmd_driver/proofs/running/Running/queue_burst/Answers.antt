use Rattle.std.proofs.Common.{◌+◌, Option, subst, arith}
use Rattle.pmd_access.specs.declared.fault.PmdFault.{PmdFault}
use Rattle.pmd_access.specs.Asks.{Asks}
use Rattle.pmd_access.proofs.Asking.{asks_none, asks_then}
use Rattle.pmd_driver.specs.Queueing.{Queues}
use Rattle.pmd_driver.proofs.Queueing.{queues_all, queues_none, queues_then}
use Rattle.pmd_driver.proofs.running.Running.queue_burst.Goals as goal

pub loop-first-init : goal.loop-first-init
loop-first-init g c =
    let len = c.len-first-end.ensures in
    record { queues = queues_none; count = omega (arith, len); asks = asks_none }

pub loop-first-preserved : goal.loop-first-preserved
loop-first-preserved g c =
    let e = c.queue_first-more in
    let on = e.ensures.goes_on c.if-ends.false in
    let count = c.loop-first.invariant.count in
    record {
      queues = subst (λ (met : Option PmdFault). Queues c.args.packets.now.items e.new.packets.items
          (c.loop-first.sent + e.result.0.sent) met (g.N.Nic.made c.args.nic.now) c.args.self.now
          (g.N.Nic.made e.new.nic) e.new.self) on.0
          (queues_then c.loop-first.invariant.queues e.ensures.queues).queues;
      count = omega (arith, count, on.1);
      asks = subst (λ (met : Option PmdFault). Asks g.N.Nic.began g.N.Nic.refuses met c.args.nic.now e.new.nic) on.0
          (asks_then c.loop-first.invariant.asks e.ensures.asks);
    }

pub returns-then-ends-clause-queues : goal.returns-then-ends-clause-queues
returns-then-ends-clause-queues g c =
    rw c.if-ends.true at (queues_then c.loop-first.invariant.queues c.queue_first-more.ensures.queues)

pub returns-clause-queues : goal.returns-clause-queues
returns-clause-queues g c =
    let count = c.loop-first.invariant.count in
    let len = c.len-first-end.ensures in
    let test = c.loop-first-test.false in
    queues_all _ c.loop-first.invariant.queues (omega (arith, count, len, test))
