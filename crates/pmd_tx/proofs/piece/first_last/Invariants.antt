use Rattle.std.proofs.Common.{◌≡◌, ◌+◌, drop}
use Rattle.pmd_tx.specs.Pieces.{first_last}
use Rattle.pmd_tx.proofs.piece.first_last.Given as goal

abbrev pub invariant-loop-number : goal.invariant-loop-number
invariant-loop-number l = first_last l.pieces.items ≡ l.number + first_last (drop l.number l.pieces.items)
