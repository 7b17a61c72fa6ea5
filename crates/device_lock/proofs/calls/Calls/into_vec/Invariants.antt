use Rattle.std.proofs.Common.{◌≡◌, ◌+◌, ◌*◌, ◌≤◌, List, ◌++◌, length}
use Rattle.std.specs.Vec.{vec_len, vec_capacity}
use Rattle.std.specs.Vec.Iter.{into_iter_items}
use Rattle.device_lock.specs.Calls.{calls_in, made_calls}
use Rattle.device_lock.specs.declared.calls.Made.{Made}
use Rattle.device_lock.proofs.calls.Calls.into_vec.Given as goal

abbrev pub invariant-loop-it : goal.invariant-loop-it
invariant-loop-it l =
    (done : List Made)
    × (calls_in (done ++ into_iter_items l.it-iterator) l.rested ≡ l.fn.self)
    × (l.calls.items ≡ made_calls done)
    × (vec_len l.calls + 5 * length (into_iter_items l.it-iterator) + 4 ≤ vec_capacity l.calls)
