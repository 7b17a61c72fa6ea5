use Rattle.std.proofs.Common.{◌≡◌, ◌+◌, ◌++◌, ◌∷◌, length}
use Rattle.pmd_tx.proofs.padding.after.Given as goal

abbrev pub invariant-loop-moved : goal.invariant-loop-moved
invariant-loop-moved l = record {
  joined : l.all ++ l.left ≡ l.fn.first ∷ l.fn.others;
  moved : length l.all ≡ l._moved + 1;
  count : l._moved + length l.left ≡ length l.fn.others;
}
