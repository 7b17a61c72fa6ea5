use Rattle.std.proofs.Common.{map, take}
use Rattle.std.specs.Io.KnownBytes.{Appends}
use Rattle.bench.specs.Summary.{queue_lines}
use Rattle.bench.proofs.summary.write_queues.Given as goal

abbrev pub invariant-loop-queue : goal.invariant-loop-queue
invariant-loop-queue g l = Appends (g.W.Write.contents l.fn.output.writer) (g.W.Write.contents l.output.writer)
    (queue_lines 0 (map (λ r. r.items) (take l.queue l.reports)))
