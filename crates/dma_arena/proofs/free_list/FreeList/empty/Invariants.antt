use Rattle.std.proofs.Common.{◌≡◌, ◌≤◌, map, replicate, length, false, None}
use Rattle.std.specs.Prelude.{is_some}
use Rattle.std.specs.Vec.{vec_capacity}
use Rattle.dma_arena.proofs.free_list.FreeList.empty.Given as goal

abbrev pub invariant-loop-made : goal.invariant-loop-made
invariant-loop-made l = record {
  none : l.slots.items ≡ replicate l._made None;
  free : map is_some l.slots.items ≡ replicate l._made false;
  made : length l.slots.items ≡ l._made;
  below : l._made ≤ l.count;
  room : l.count ≤ vec_capacity l.slots;
}
