use Rattle.std.proofs.Common.{◌≡◌, ◌+◌, ◌≤◌, ◌++◌, replicate, length, None}
use Rattle.std.specs.Vec.{vec_capacity}
use Rattle.dma_arena.proofs.table.make_places.Given as goal

abbrev pub invariant-loop-made : goal.invariant-loop-made
invariant-loop-made l = record {
  none : l.places.items ≡ l.fn.places.items ++ replicate l._made None;
  made : length l.places.items ≡ length l.fn.places.items + l._made;
  below : l._made ≤ l.more;
  room : length l.fn.places.items + l.more ≤ vec_capacity l.places;
}
