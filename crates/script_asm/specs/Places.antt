-- A table of names with their numbers.
use Rattle.std.specs.Prelude.{ℕ, List, map, Option}
use Rattle.std.specs.Coded.{Coded, coded_ℕ, coded_list}
use Rattle.std.specs.FinMap as fin
use denote.Ref.{Bor}
use Rattle.script_asm.specs.Prelude.{BTreeMap, nat_cmp, slice_cmp}

-- The names of labels or data strings, with their numbers.
abbrev pub Places : Type 0
Places = fin.FinMap (slice_cmp nat_cmp) ℕ

abbrev pub places_code : Coded Places
places_code = fin.code (coded_list coded_ℕ) coded_ℕ

-- The empty table.
abbrev pub nowhere : Places
nowhere = fin.empty

-- The number of a name, if the table contains the name.
abbrev pub place_of : Places → List ℕ → Option ℕ
place_of places name = fin.get places name

-- The table after a name's number is defined.
abbrev pub with_place : Places → List ℕ → ℕ → Places
with_place places name number = fin.insert places name number

-- The table with the names and numbers of an ordered map.
abbrev pub shown : BTreeMap (Bor (List ℕ)) ℕ → Places
shown m = fin.from_entries (map (λ e. (e.0.now, e.1)) m.entries)
