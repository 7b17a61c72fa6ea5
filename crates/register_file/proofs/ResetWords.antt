-- The words of the rows after a reset.
use Rattle.std.proofs.Common.{◌≡◌, ◌<◌, [], length, get_or, ap, sym, ◌∙◌, subst}
use Rattle.std.specs.Prelude.{replicate}
use Rattle.std.proofs.lemmas.List.{get_or-map, get_or-replicate}
use Rattle.reg_table.specs.Rows.{row_of, rows, number_of}
use Rattle.reg_table.specs.declared.place.Place.{Place}
use Rattle.reg_table.specs.declared.rows.RowId.{RowId}
use Rattle.reg_table.proofs.Numbers.{rows_length, number_below, row_numbered}
use Rattle.register_file.specs.Words.{word_at, row_words, reset_words}

pub number_small : (r : RowId) → number_of r < length rows
number_small r = subst (λ n. number_of r < n) (sym rows_length) (number_below r)

pub row_words-reset : (r : RowId) → row_words reset_words r ≡ replicate (row_of r).count (row_of r).reset
unfolding reset_words
row_words-reset r =
    get_or-map (λ row. replicate (row_of row).count (row_of row).reset) rows (number_of r) r [] (number_small r)
    ∙ ap (λ row. replicate (row_of row).count (row_of row).reset) (row_numbered r r)

-- After a reset, a place holds its row's reset value.
pub word_at-reset : (p : Place) → p.index < (row_of p.row).count → word_at reset_words p ≡ (row_of p.row).reset
word_at-reset p b =
    ap (λ xs. get_or xs p.index 0) (row_words-reset p.row) ∙ get_or-replicate (row_of p.row).count p.index
    (row_of p.row).reset 0 b
