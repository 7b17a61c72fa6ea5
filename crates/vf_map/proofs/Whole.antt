-- Lemmas about what an offset reaches, for each part of the map.
use Rattle.std.proofs.Common.{◌≡◌, ℕ, ◌<◌, ◌≤◌, nat_lt, ◌++◌, Some, None, ◌∙◌, ap}
use Rattle.std.proofs.lemmas.Bool.{cond-true, cond-false, lt-ltb, le-ltb}
use Rattle.reg_table.specs.declared.place.Place.{Place}
use Rattle.vf_map.specs.declared.mode.Mode.{Mode}
use Rattle.vf_map.specs.declared.located.Located.TheVariants.{Absent}
use Rattle.vf_map.specs.Pools.{queues_of}
use Rattle.vf_map.specs.Map.{function_entries, vector_entries, entries, located, located_in}
use Rattle.vf_map.specs.Parts.{place_at, queues_entries}
use Rattle.vf_map.proofs.LocatedAt.{located_at}
use Rattle.vf_map.proofs.Chains.{in_first, in_second, found_at}

-- If one of the function's own registers has the offset, the map has that register there.
pub entries_own : (v first count o : ℕ) (a : Place) → place_at (function_entries v) o ≡ Some a →
    place_at (entries v first count) o ≡ Some a
unfolding entries
entries_own v first count o a e =
    in_first (function_entries v ++ vector_entries first count) (queues_entries first count) o a
    (in_first (function_entries v) (vector_entries first count) o a e)

-- If one of the function's vector registers has the offset, the map has that register there.
pub entries_vector : (v first count o : ℕ) (a : Place) → place_at (function_entries v) o ≡ None →
    place_at (vector_entries first count) o ≡ Some a → place_at (entries v first count) o ≡ Some a
unfolding entries
entries_vector v first count o a n e =
    in_first (function_entries v ++ vector_entries first count) (queues_entries first count) o a
    (in_second (function_entries v) (vector_entries first count) o n ∙ e)

-- At any other offset, searching the map gives the same result as searching the queues' registers.
pub entries_queues : (v first count o : ℕ) → place_at (function_entries v) o ≡ None →
    place_at (vector_entries first count) o ≡ None →
    place_at (entries v first count) o ≡ place_at (queues_entries first count) o
unfolding entries
entries_queues v first count o n m =
    in_second (function_entries v ++ vector_entries first count) (queues_entries first count) o
    (in_second (function_entries v) (vector_entries first count) o n ∙ m)

-- If the function doesn't exist, the result is `Absent`.
pub located_beyond : (mode : Mode) (vfs v o : ℕ) → vfs ≤ v → located mode vfs v o ≡ Absent
unfolding located
located_beyond mode vfs v o h = cond-false (nat_lt v vfs) _ _ (le-ltb v vfs h)

-- If the mode has no pool for the function, the result is `Absent`.
pub located_none : (mode : Mode) (vfs v o : ℕ) → v < vfs → queues_of mode v ≡ None → located mode vfs v o ≡ Absent
unfolding located
located_none mode vfs v o h e =
    cond-true (nat_lt v vfs) _ _ (lt-ltb v vfs h) ∙ ap (λ queues. located_in v queues o) e

-- If the function has a pool, the offset reaches the place that the function's entries have for the offset, or a hole.
pub located_some : (mode : Mode) (vfs v o first count : ℕ) → v < vfs → queues_of mode v ≡ Some (first, count) →
    located mode vfs v o ≡ located_at (place_at (entries v first count) o)
unfolding located
located_some mode vfs v o first count h e =
    cond-true (nat_lt v vfs) _ _ (lt-ltb v vfs h) ∙ ap (λ queues. located_in v queues o) e
    ∙ found_at (entries v first count) o
