use Rattle.std.specs.Prelude.{ℕ}
use Rattle.reg_table.specs.declared.place.Place.{Place}
use Rattle.reg_table.specs.declared.rows.RowId.{RowId}

-- The place of a row at an index.
abbrev pub place : RowId → ℕ → Place
place row index = record { row = row; index = index }
