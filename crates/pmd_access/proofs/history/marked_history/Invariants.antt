use Rattle.std.proofs.Common.{◌≡◌, ◌+◌, ◌≤◌, ◌++◌, length}
use Rattle.std.specs.Vec.{vec_len, vec_capacity}
use Rattle.std.specs.Vec.Iter.{into_iter_items}
use Rattle.pmd_access.specs.Begun.{marked_entries}
use Rattle.pmd_access.proofs.history.marked_history.Given as goal

abbrev pub invariant-loop-call : goal.invariant-loop-call
invariant-loop-call l =
    (marked_entries l.fn.calls.items l.fn.own
    ≡ l.history.items ++ marked_entries (into_iter_items l.call-iterator) l.marks)
    × (vec_len l.history + length (into_iter_items l.call-iterator) ≤ vec_capacity l.history)
