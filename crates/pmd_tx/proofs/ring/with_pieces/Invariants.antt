use Rattle.std.proofs.Common.{◌≡◌, ◌+◌, ◌++◌, take}
use Rattle.std.specs.VecDeque.{deque_len, deque_capacity}
use Rattle.pmd_tx.specs.Pieces.{places_of}
use Rattle.pmd_tx.proofs.ring.with_pieces.Given as goal

abbrev pub invariant-loop-number : goal.invariant-loop-number
invariant-loop-number l = record {
  items : l.lent.items ≡ l.initial.lent.items ++ take l.number (places_of l.pieces.items);
  len : deque_len l.lent ≡ deque_len l.initial.lent + l.number;
  capacity : deque_capacity l.lent ≡ deque_capacity l.initial.lent;
}
