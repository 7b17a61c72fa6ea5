use Rattle.std.proofs.Common.{◌≡◌, ◌≤◌, ◌+◌, ◌++◌, take, drop, length}
use Rattle.std.specs.VecDeque.{deque_len, deque_capacity}
use Rattle.pmd_rx.proofs.tail.hand_over.Given as goal

abbrev pub invariant-loop-packet : goal.invariant-loop-packet
invariant-loop-packet l = record {
  out : l.out.items ≡ l.fn.out.items ++ take l._packet l.fn.packets.items;
  left : l.packets.items ≡ drop l._packet l.fn.packets.items;
  room : length l.packets.items + deque_len l.out ≤ deque_capacity l.out;
}
