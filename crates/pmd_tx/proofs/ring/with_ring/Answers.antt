use Rattle.std.proofs.Common.{◌∙◌, arith}
use Rattle.pmd_access.proofs.Rings.{run_more}
use Rattle.pmd_tx.proofs.ring.with_ring.Goals as goal

pub loop-at-preserved : goal.loop-at-preserved
loop-at-preserved c = record {
  items = run_more _ c.loop-at.lent.items _ c.args.ring c.loop-at.at c.loop-at.invariant.items
      c.push_back_reserved.ensures.items;
  len = omega (arith, c.push_back_reserved.ensures.len, c.loop-at.invariant.len);
  capacity = c.push_back_reserved.ensures.capacity ∙ c.loop-at.invariant.capacity;
}
