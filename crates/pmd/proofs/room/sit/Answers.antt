use Rattle.std.proofs.Common.{List, ap, length, arith, subst}
use Rattle.pmd.specs.declared.job.Job.{Job}
use Rattle.pmd.specs.declared.assignment.Assignment.{Assignment}
use Rattle.pmd.proofs.Emptied.{emptied}
use Rattle.pmd.proofs.Sitting.{IsSitting, one_sits, none_sits, all_sit}
use Rattle.pmd.proofs.room.sit.Goals as goal

pub loop-worker-init : goal.loop-worker-init
loop-worker-init g c =
    record {
      sitting = none_sits _ _ _ _ c.requires.empty c.requires.ways;
      left = omega arith;
      placed = omega (arith, c.args.room.ok.0, ap (λ l. length l) c.requires.empty);
      room = c.requires.room;
    }

pub loop-worker-preserved : goal.loop-worker-preserved
loop-worker-preserved g c =
    let i = c.loop-worker.invariant in
    record {
      sitting = rw (c.remove.ensures.items, c.remove-in-loop-worker.ensures.items, c.push_reserved.ensures.items)
          (one_sits c.args.jobs.items c.args.collectors.now c.loop-worker.jobs.items c.loop-worker.producers.items
          c.loop-worker.cells.items c.new.result c.remove.result c.remove-in-loop-worker.result i.sitting
          (omega (arith, i.left, c.loop-worker-test.true, c.len-worker-end.ensures, c.loop-worker.jobs.ok.0))
          (ap (λ (d : Assignment). d.job) c.new.ensures) c.remove.ensures.value
          (ap (λ (d : Assignment). d.producer) c.new.ensures) c.remove-in-loop-worker.ensures.value);
      left = omega (arith, c.remove.ensures.len, i.left);
      placed = omega (arith, c.push_reserved.ensures.len, i.placed);
      room = rw c.push_reserved.ensures.capacity i.room;
    }

pub returns : goal.returns
returns g c =
    let i = c.loop-worker.invariant in
    let none = emptied c.loop-worker.jobs.items
    (omega (arith, i.left, c.loop-worker-test.false, c.len-worker-end.ensures, c.loop-worker.jobs.ok.0)) in
    all_sit c.args.jobs.items c.args.collectors.now c.loop-worker.producers.items c.loop-worker.cells.items
    (subst (λ (l : List Job). IsSitting c.args.jobs.items c.args.collectors.now l c.loop-worker.producers.items
    c.loop-worker.cells.items) none i.sitting)
