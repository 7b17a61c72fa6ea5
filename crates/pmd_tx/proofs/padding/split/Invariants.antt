use Rattle.std.proofs.Common.{◌≡◌, ◌++◌, length}
use Rattle.pmd_tx.proofs.padding.split.Given as goal

abbrev pub invariant-loop-moved : goal.invariant-loop-moved
invariant-loop-moved l = record {
  joined : l.first ++ l.rest ≡ l.fn.bufs;
  moved : length l.first ≡ l._moved;
}
