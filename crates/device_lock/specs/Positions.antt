-- Where one pass's entries are in a history.
use Rattle.std.specs.Prelude.{ℕ, ◌+◌, ◌==◌, List, [], ◌∷◌, if◌then◌else◌}
use Rattle.device_lock.specs.declared.entry.Entry.{Entry}

-- The positions of the entries with this tag, counting from `at` for the first entry.
abbrev pub positions_from : ℕ → ℕ → List Entry → List ℕ
positions_from at tag [] = []
positions_from at tag (e ∷ es) =
    if e.pass == tag then at ∷ positions_from (at + 1) tag es else positions_from (at + 1) tag es

abbrev pub positions_of : ℕ → List Entry → List ℕ
positions_of tag h = positions_from 0 tag h
