use Rattle.std.proofs.Common.{◌++◌, ◌∷◌, [], take, ap, sym, ◌∙◌, arith}
use Rattle.pmd.specs.declared.job.Job.{Job}
use Rattle.pmd.proofs.Ways.{take_next, ways_more, ways_all}
use Rattle.pmd.proofs.room.make_room.Goals as goal

pub loop-job-preserved : goal.loop-job-preserved
loop-job-preserved c =
    let i = c.loop-job.job-index in
    let jobs = c.args.jobs.now in
    let j : Job = c.job-item.result in
    let way = c.in_ok-producer.ensures in
    let next = take_next i jobs j c.loop-job-test.true
    ∙ ap (λ (x : Job). take i jobs ++ x ∷ []) (sym c.job-item.is) in
    record {
      starts = omega (arith, c.in_ok-push.ensures.len, c.loop-job.invariant.starts);
      ways = rw (next, c.in_ok-push-2.ensures.items, c.in_ok-push-3.ensures.items)
          (ways_more (take i jobs) c.loop-job.producers.items c.loop-job.collectors.items j
          c.in_ok-producer.producer c.in_ok-producer.collector c.loop-job.invariant.ways
          (way.pair, way.fresh.0, way.room.0, way.room.1));
    }

pub returns-clause-ways : goal.returns-clause-ways
returns-clause-ways c =
    ways_all c.loop-job.job-index c.args.jobs.now c.loop-job.producers.items c.loop-job.collectors.items
    (omega (arith, c.loop-job-test.false)) c.loop-job.invariant.ways
