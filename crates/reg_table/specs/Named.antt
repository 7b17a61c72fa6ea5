use Rattle.std.specs.Prelude.{ℕ, Bool, List, Option, find}
use Rattle.std.specs.Str.{bytes_eq}
use Rattle.reg_table.specs.declared.rows.RowId.{RowId}
use Rattle.reg_table.specs.Rows.{row_of, rows}

-- Whether the row has this name.
abbrev pub is_named : List ℕ → RowId → Bool
is_named name row = bytes_eq (row_of row).name name

-- The first row with this name. No second row has it.
abbrev pub row_with_name : List ℕ → Option RowId
row_with_name name = find (is_named name) rows
