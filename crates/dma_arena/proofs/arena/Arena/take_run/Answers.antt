use Rattle.std.proofs.Common.{◌≡◌, ◌+◌, true, false, Some, refl, sym, ap, ◌∙◌, arith}
use Rattle.dma_arena.specs.Numbers.{Numbers, is_free, with_free}
use Rattle.dma_arena.specs.Run.{BlockRun, lowest_run, run_in}
use Rattle.dma_arena.proofs.Runs.{found_after, next_free, without_run-none, without_run-more}
use Rattle.dma_arena.proofs.arena.Arena.take_run.Goals as goal

pub loop-k-init : goal.loop-k-init
loop-k-init c = record {
  run = c.empty-run.ensures;
  taken = without_run-none c.args.self.now c.in_ok-first.first;
}

pub push-requires-clause-few : goal.push-requires-clause-few
push-requires-clause-few c =
    rw c.loop-k.invariant.run (omega (arith, c.loop-k-test.true, c.requires.few))

pub push-requires-clause-next : goal.push-requires-clause-next
push-requires-clause-next c = rw c.loop-k.invariant.run c.in-Some.ensures.zero

pub unreachable-requires : goal.unreachable-requires
unreachable-requires c =
    let free : is_free c.loop-k.self (c.in_ok-first.first + c.loop-k.k) ≡ true =
    rw c.loop-k.invariant.taken (next_free c.args.self.now c.in_ok-first.first c.args.count c.loop-k.k
    (found_after c.args.self.now c.args.count c.first.result c.in_ok-first.first (sym c.in_ok-first.ensures.run))
    c.loop-k-test.true) in
    let taken : is_free c.loop-k.self (c.in_ok-first.first + c.loop-k.k) ≡ false = c.in-None.ensures.none.0 refl in
    cc

pub loop-k-preserved : goal.loop-k-preserved
loop-k-preserved c = record {
  run =
      c.push.ensures
      ∙ ap (λ (r : BlockRun). let s : BlockRun = record { first = r.first; count = r.count + 1 } in s)
      c.loop-k.invariant.run;
  taken =
      c.in-Some.ensures.taken
      ∙ ap (λ (a : Numbers). with_free a (c.in_ok-first.first + c.loop-k.k) false) c.loop-k.invariant.taken
      ∙ without_run-more c.args.self.now c.in_ok-first.first c.loop-k.k;
}

pub returns-clause-run : goal.returns-clause-run
returns-clause-run c =
    let e : c.loop-k.k ≡ c.args.count = omega (arith, c.loop-k-test.false, c.loop-k.auto.k-end) in
    let found : run_in c.args.self.now c.args.count ≡ Some c.in_ok-first.first =
    ap (λ from. lowest_run c.args.self.now c.args.count from) (sym c.first.ensures) ∙ sym c.in_ok-first.ensures.run in
    rw (c.loop-k.invariant.run, e, found) refl

pub returns-clause-small : goal.returns-clause-small
returns-clause-small c = rw c.loop-k.invariant.run c.in_ok-first.ensures.found.1

pub returns-clause-taken : goal.returns-clause-taken
returns-clause-taken c =
    let e : c.loop-k.k ≡ c.args.count = omega (arith, c.loop-k-test.false, c.loop-k.auto.k-end) in
    rw (c.loop-k.invariant.run, ← e) c.loop-k.invariant.taken
