use Rattle.std.proofs.Common.{subst}
use Rattle.std.specs.Io.KnownBytes.{Appends}
use Rattle.bench_commands.proofs.Appending.{Appends-both}
use Rattle.bench.proofs.Lines.{lines-more}
use Rattle.bench.proofs.summary.write_queues.Goals as goal

pub loop-queue-preserved : goal.loop-queue-preserved
loop-queue-preserved g c =
    subst
    (Appends (g.W.Write.contents c.args.output.now.writer) (g.W.Write.contents c.write_queue.new.output.writer))
    (lines-more c.args.reports.now (λ r. r.items) c.loop-queue.queue c.index-reports-queue.result _
    c.loop-queue-test.true c.index-reports-queue.is c.deref.ensures.value)
    (Appends-both _ _ _ _ _ c.loop-queue.invariant c.in_ok-write_queue.ensures.ok)
