use Rattle.std.proofs.Common.{◌≡◌, ◌+◌, ◌*◌, ◌++◌, ◌∷◌, drop}
use Rattle.std.specs.VecDeque.{deque_len, deque_capacity}
use Rattle.pmd_access.specs.Bufs.{numbers_of}
use Rattle.pmd_tx.specs.Pieces.{pieces_in}
use Rattle.pmd_tx.proofs.piece.add_pieces.Given as goal

abbrev pub invariant-loop-number : goal.invariant-loop-number
invariant-loop-number l = record {
  items : l.pieces.items ++ pieces_in l.fn.whole (l.block ∷ numbers_of (drop l.number l.fn.others)) l.left
      ≡ l.initial.pieces.items ++ pieces_in l.fn.whole (l.fn.first ∷ numbers_of l.fn.others) l.fn.whole;
  left : l.left + 2048 * l.number ≡ l.fn.whole;
  len : deque_len l.pieces ≡ deque_len l.initial.pieces + l.number;
  capacity : deque_capacity l.pieces ≡ deque_capacity l.initial.pieces;
}
