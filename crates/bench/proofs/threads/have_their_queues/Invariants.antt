use Rattle.bench.specs.Summary.{HaveTheirQueues}
use Rattle.bench.proofs.threads.have_their_queues.Given as goal

abbrev pub invariant-loop-worker : goal.invariant-loop-worker
invariant-loop-worker l = HaveTheirQueues l.worker l.closed.history
