-- Lemmas about tables with one entry per row, in the rows' order.
use Rattle.std.proofs.Common.{◌≡◌, ◌<◌, List, length, map, slice_index_or, get_or, sym, ap, ◌∙◌, subst}
use Rattle.std.proofs.Math.ListN.{get_or-map, length-map}
use Rattle.std.proofs.lemmas.List.{get_or-map as read-map}
use Rattle.reg_table.specs.declared.rows.RowId.{RowId}
use Rattle.reg_table.specs.Rows.{rows, number_of}
use Rattle.reg_table.proofs.Numbers.{row_numbered, number_below, rows_length}

-- The table has an entry for each row.
pub number_in : {X Y : Type 0} (tells : X → Y) (wanted : RowId → Y) (table : List X)
    → map tells table ≡ map wanted rows → (row : RowId) → number_of row < length table
number_in tells wanted table same row =
    let long : length table ≡ length rows =
    sym (length-map table tells) ∙ ap length same ∙ length-map rows wanted in
    subst (λ n. number_of row < n) (sym (long ∙ rows_length)) (number_below row)

-- The entry of a row is at the row's number.
pub in_order : {X Y : Type 0} (tells : X → Y) (wanted : RowId → Y) (table : List X) (d : X)
    → map tells table ≡ map wanted rows
    → (row : RowId) → tells (slice_index_or table (number_of row) d) ≡ wanted row
in_order tells wanted table d same row =
    let there : number_of row < length rows = subst (λ n. number_of row < n) (sym rows_length) (number_below row) in
    sym (get_or-map tells table (number_of row) d)
    ∙ ap (λ l. get_or l (number_of row) (tells d)) same
    ∙ read-map wanted rows (number_of row) row (tells d) there
    ∙ ap wanted (row_numbered row row)
