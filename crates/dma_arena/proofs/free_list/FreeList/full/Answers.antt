use Rattle.std.proofs.Common.{arith, ◌∙◌}
use Rattle.dma_arena.proofs.Emptied.{filled-start, filled-step, filled-end}
use Rattle.dma_arena.proofs.free_list.FreeList.full.Goals as goal

pub loop-left-init : goal.loop-left-init
loop-left-init c = record {
  below = omega arith;
  filled = filled-start c.args.count c.in_ok-list.list c.in_ok-list.ensures;
}

pub put-requires-clause-inside : goal.put-requires-clause-inside
put-requires-clause-inside c =
    (filled-step c.args.count c.loop-left.left c.loop-left.list c.loop-left-test.true c.loop-left.invariant.below
    c.loop-left.invariant.filled).0

pub put-requires-clause-in_use : goal.put-requires-clause-in_use
put-requires-clause-in_use c =
    (filled-step c.args.count c.loop-left.left c.loop-left.list c.loop-left-test.true c.loop-left.invariant.below
    c.loop-left.invariant.filled).1

pub loop-left-preserved : goal.loop-left-preserved
loop-left-preserved c = record {
  below = omega (arith, c.loop-left.invariant.below);
  filled =
      c.put.ensures
      ∙ (filled-step c.args.count c.loop-left.left c.loop-left.list c.loop-left-test.true c.loop-left.invariant.below
      c.loop-left.invariant.filled).2;
}

pub returns : goal.returns
returns c =
    filled-end c.args.count c.loop-left.left c.loop-left.list c.loop-left.invariant.filled
    (omega (arith, c.loop-left-test.false))
