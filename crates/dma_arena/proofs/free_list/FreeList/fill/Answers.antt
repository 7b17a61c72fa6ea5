use Rattle.std.proofs.Common.{◌≡◌, ◌≢◌, ℕ, ◌+◌, ◌-◌, length, get_or, false, refl, ap, ◌∙◌, arith}
use Rattle.std.proofs.lemmas.List.{get_or-set_other}
use Rattle.dma_arena.proofs.Emptied.{filled-start, filled-step, filled-end}
use Rattle.dma_arena.proofs.free_list.FreeList.fill.Goals as goal

pub loop-left-init : goal.loop-left-init
loop-left-init c =
    let n : c.len-left.result ≡ length c.args.self.now = c.len-left.ensures.count in
    record {
      below = omega (arith, n);
      filled = rw n (filled-start (length c.args.self.now) c.args.self.now c.requires.empty);
      there = λ k lt. c.requires.there k (omega (arith, lt, n));
      kept = λ p out. refl;
    }

pub overflow_add-from : goal.overflow_add-from
overflow_add-from c = record { fits = omega (arith, c.requires.fits, c.loop-left.invariant.below) }

pub overflow_cast-from : goal.overflow_cast-from
overflow_cast-from c = record { fits = omega (arith, c.requires.fits, c.loop-left.invariant.below) }

pub put-requires-clause-inside : goal.put-requires-clause-inside
put-requires-clause-inside c =
    (filled-step (length c.args.self.now) c.loop-left.left c.loop-left.self c.loop-left-test.true
    c.loop-left.invariant.below c.loop-left.invariant.filled).0

pub put-requires-clause-in_use : goal.put-requires-clause-in_use
put-requires-clause-in_use c =
    (filled-step (length c.args.self.now) c.loop-left.left c.loop-left.self c.loop-left-test.true
    c.loop-left.invariant.below c.loop-left.invariant.filled).1

pub loop-left-preserved : goal.loop-left-preserved
loop-left-preserved c =
    let at : ℕ = c.args.from + (c.loop-left.left - 1) in
    record {
      below = omega (arith, c.loop-left.invariant.below);
      filled =
          c.put.ensures
          ∙ (filled-step (length c.args.self.now) c.loop-left.left c.loop-left.self c.loop-left-test.true
          c.loop-left.invariant.below c.loop-left.invariant.filled).2;
      there = λ k lt.
          let ne : c.args.from + k ≢ at = λ e. absurd (omega (arith, lt, e)) in
          ap (λ xs. get_or xs (c.args.from + k) false) c.take-memory.ensures
          ∙ get_or-set_other c.loop-left.other at (c.args.from + k) false false ne
          ∙ c.loop-left.invariant.there k (omega (arith, lt));
      kept = λ p out.
          let ne : p ≢ at = λ e. absurd (omega (arith, out, e, c.loop-left-test.true, c.loop-left.invariant.below)) in
          ap (λ xs. get_or xs p false) c.take-memory.ensures
          ∙ get_or-set_other c.loop-left.other at p false false ne ∙ c.loop-left.invariant.kept p out;
    }

pub returns-clause-filled : goal.returns-clause-filled
returns-clause-filled c =
    filled-end (length c.args.self.now) c.loop-left.left c.loop-left.self c.loop-left.invariant.filled
    (omega (arith, c.loop-left-test.false))
