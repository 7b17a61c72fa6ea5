use Rattle.std.proofs.Common.{◌∙◌, arith}
use Rattle.pmd_access.proofs.Rings.{run_more}
use Rattle.pmd_rx.proofs.ring.with_ring.Goals as goal

pub loop-place-preserved : goal.loop-place-preserved
loop-place-preserved c = record {
  items = run_more _ c.loop-place.lent.items _ c.args.ring c.loop-place.place c.loop-place.invariant.items
      c.push_back_reserved.ensures.items;
  len = omega (arith, c.push_back_reserved.ensures.len, c.loop-place.invariant.len);
  capacity = c.push_back_reserved.ensures.capacity ∙ c.loop-place.invariant.capacity;
}
