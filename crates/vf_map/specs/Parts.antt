-- The parts of the map, in the order in which the code searches them.
use Rattle.std.specs.Prelude.{ℕ, ◌+◌, ◌==◌, List, [], ◌∷◌, find, Option, Some, None, if◌then◌else◌}
use Rattle.std.specs.List.{flat_map, range_with_len}
use Rattle.reg_table.specs.declared.place.Place.{Place}
use Rattle.reg_table.specs.declared.rows.RowId.{RowId}
use Rattle.vf_map.specs.Map.{Entry, distance, queue_entries}

-- The place of the first entry with the offset.
abbrev pub place_at : List Entry → ℕ → Option Place
place_at [] offset = None
place_at (entry ∷ entries) offset = if entry.0 == offset then Some entry.1 else place_at entries offset

-- The row of a side that is at this distance, in bytes, from the side's first row.
abbrev pub row_after : (first : RowId) → List RowId → ℕ → Option RowId
row_after first rows bytes = find (λ row. distance first row == bytes) rows

-- The place of a queue in a row.
abbrev pub of_queue : Option RowId → (queue : ℕ) → Option Place
of_queue None queue = None
of_queue (Some row) queue = Some (record { row = row; index = queue })

-- The registers of all queues of a function.
abbrev pub queues_entries : (first count : ℕ) → List Entry
queues_entries first count = flat_map (λ x. queue_entries x (first + x)) (range_with_len 0 count)
