use Rattle.std.proofs.Common.{◌≡◌, ◌+◌, ◌++◌}
use Rattle.std.specs.List.{range_with_len}
use Rattle.std.specs.VecDeque.{deque_len, deque_capacity}
use Rattle.pmd_tx.proofs.ring.with_ring.Given as goal

abbrev pub invariant-loop-at : goal.invariant-loop-at
invariant-loop-at l = record {
  items : l.lent.items ≡ l.initial.lent.items ++ range_with_len l.fn.ring l.at;
  len : deque_len l.lent ≡ deque_len l.initial.lent + l.at;
  capacity : deque_capacity l.lent ≡ deque_capacity l.initial.lent;
}
