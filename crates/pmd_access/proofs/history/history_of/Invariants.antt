use Rattle.std.proofs.Common.{◌≡◌, ◌+◌, ◌≤◌, ◌++◌, length}
use Rattle.std.specs.Vec.{vec_len, vec_capacity}
use Rattle.std.specs.Vec.Iter.{into_iter_items}
use Rattle.pmd_access.specs.Begun.{entries_in}
use Rattle.pmd_access.proofs.history.history_of.Given as goal

abbrev pub invariant-loop-call : goal.invariant-loop-call
invariant-loop-call l =
    (entries_in l.fn.calls.items ≡ l.history.items ++ entries_in (into_iter_items l.call-iterator))
    × (vec_len l.history + length (into_iter_items l.call-iterator) ≤ vec_capacity l.history)
