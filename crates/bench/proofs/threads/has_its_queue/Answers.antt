use Rattle.bench.proofs.Queues.{has_queue, lacks_queue}
use Rattle.bench.proofs.threads.has_its_queue.Goals as goal

pub returns-then-left_alone : goal.returns-then-left_alone
returns-then-left_alone c =
    has_queue c.args.worker c.from-queue.result c.args.closed.now.history c.history.result.now c.left_alone.result
    c.from-queue.ensures c.history.ensures.entries c.left_alone.ensures c.if-left_alone.true c.begins_well.result
    c.begins_well.ensures

pub returns-else-left_alone : goal.returns-else-left_alone
returns-else-left_alone c =
    lacks_queue c.args.worker c.from-queue.result c.args.closed.now.history c.args.closed.now.history
    c.left_alone.result c.from-queue.ensures (λ i. c.args.closed.now.history) c.left_alone.ensures
    c.if-left_alone.false
