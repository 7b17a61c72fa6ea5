use Rattle.std.proofs.Common.{arith, ◌≡◌, ◌<◌, ◌≤◌, inl, inr, ℕ, true, subst, sym}
use Rattle.std.proofs.lemmas.Bool.{both_ways, cases_eq}
use Rattle.bench.specs.Summary.{HasItsQueue}
use Rattle.bench.proofs.threads.have_their_queues.Goals as goal

pub returns-then-not-has_its_queue : goal.returns-then-not-has_its_queue
returns-then-not-has_its_queue c = (
  λ is. cc,
  λ theirs.
      absurd (both_ways c.has_its_queue.result c.if-not-has_its_queue.true
      (c.has_its_queue.ensures.1 (theirs c.loop-worker.worker c.loop-worker-test.true))),
)

pub loop-worker-preserved : goal.loop-worker-preserved
loop-worker-preserved c = λ worker below.
    elim (cases_eq worker c.loop-worker.worker) as (λ _. HasItsQueue worker c.args.closed.now.history) [
      | inl same ↦
          subst (λ n. HasItsQueue n c.args.closed.now.history) (sym same)
          (c.has_its_queue.ensures.0 c.if-not-has_its_queue.false)
      | inr other ↦ c.loop-worker.invariant worker (omega (arith, below, other))
    ]
