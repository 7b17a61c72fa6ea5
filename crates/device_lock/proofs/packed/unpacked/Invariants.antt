use Rattle.std.proofs.Common.{◌≡◌, ◌≤◌, length}
use Rattle.std.specs.Vec.{vec_capacity}
use Rattle.std.specs.Vec.Iter.{into_iter_items}
use Rattle.device_lock.specs.Packed.{entries_in}
use Rattle.device_lock.proofs.packed.unpacked.Given as goal

abbrev pub invariant-loop-it : goal.invariant-loop-it
invariant-loop-it l =
    (entries_in l.entries.items (into_iter_items l.it-iterator) l.fn.rested
    ≡ entries_in l.fn.whole.items l.fn.packed.items l.fn.rested)
    × (length (entries_in l.entries.items (into_iter_items l.it-iterator) l.fn.rested) ≤ vec_capacity l.entries)
