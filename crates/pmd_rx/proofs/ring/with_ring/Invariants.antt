use Rattle.std.proofs.Common.{◌≡◌, ◌+◌, ◌++◌}
use Rattle.std.specs.List.{range_with_len}
use Rattle.std.specs.VecDeque.{deque_len, deque_capacity}
use Rattle.pmd_rx.proofs.ring.with_ring.Given as goal

abbrev pub invariant-loop-place : goal.invariant-loop-place
invariant-loop-place l = record {
  items : l.lent.items ≡ l.initial.lent.items ++ range_with_len l.fn.ring l.place;
  len : deque_len l.lent ≡ deque_len l.initial.lent + l.place;
  capacity : deque_capacity l.lent ≡ deque_capacity l.initial.lent;
}
