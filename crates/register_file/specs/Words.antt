use Rattle.std.specs.Prelude.{ℕ, List, [], map, replicate, slice_index, slice_index_or, slice_set}
use Rattle.reg_table.specs.Rows.{number_of, row_of, rows}
use Rattle.reg_table.specs.declared.place.Place.{Place}
use Rattle.reg_table.specs.declared.rows.RowId.{RowId}

-- The words of the registers: for each row, in the table's order, the words at its indices.
abbrev pub Words : Type 0
Words = List (List ℕ)

-- The words of a row.
abbrev pub row_words : Words → RowId → List ℕ
row_words words row = slice_index_or words (number_of row) []

-- The word at a place.
abbrev pub word_at : Words → Place → ℕ
word_at words p = slice_index (row_words words p.row) p.index

-- The words with the word at a place replaced.
abbrev pub put : Words → Place → ℕ → Words
put words p word = slice_set words (number_of p.row) (slice_set (row_words words p.row) p.index word)

-- After a reset each row has its reset value at each of its indices.
unfoldable pub reset_words : Words
reset_words = map (λ row. replicate (row_of row).count (row_of row).reset) rows
