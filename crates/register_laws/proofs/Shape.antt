-- Registers keep their shape.
use Rattle.std.proofs.Common.{◌≡◌, ℕ, ◌<◌, Bool, false, length, ap, sym, ◌∙◌, subst}
use Rattle.std.specs.Prelude.{replicate, set}
use Rattle.std.proofs.lemmas.List.{length-map, length-set, length-replicate}
use Rattle.register_file.specs.Words.{word_at, put, row_words, reset_words}
use Rattle.register_laws.specs.Prelude.{Dir, Group, Interrupts, Pf, Place, Registers, RowId, Rx, Tx, Vf, cause_row}
use Rattle.register_laws.specs.Prelude.{index_of, mask_row, number_of, place, reset_registers, row_of, rows}
use Rattle.register_laws.specs.Prelude.{with_interrupts, with_reported, with_wanted}
use Rattle.register_laws.specs.Laws.{HasShape}
use Rattle.register_file.proofs.ResetWords.{number_small, row_words-reset}
use Rattle.register_laws.proofs.Puts.{word_at-put_same, length-row_words-put}

-- After a word is stored at an existing place, the place contains this word.
pub put_stands : (r : Registers) (p : Place) (v : ℕ) → HasShape r → p.index < (row_of p.row).count
    → word_at (put r.words p v) p ≡ v
put_stands r p v h b =
    word_at-put_same r.words p v (subst (λ n. number_of p.row < n) (sym h.has_rows) (number_small p.row))
    (subst (λ n. p.index < n) (sym (h.has_indices p.row)) b)

pub HasShape-reset : HasShape reset_registers
unfolding reset_words
HasShape-reset = record {
  has_rows = length-map rows (λ row. replicate (row_of row).count (row_of row).reset);
  has_indices = λ row. ap length (row_words-reset row) ∙ length-replicate (row_of row).count (row_of row).reset;
  wanted_rx = length-replicate 128 false;
  wanted_tx = length-replicate 128 false;
  reported_vf = length-replicate {A = ℕ} 64 0;
}

pub HasShape-put : (r : Registers) (p : Place) (v : ℕ) → HasShape r → HasShape (record r { words = put r.words p v })
HasShape-put r p v h =
    assumption (
      length-set r.words (number_of p.row) (set (row_words r.words p.row) p.index v) ∙ h.has_rows,
      λ (row : RowId). length-row_words-put r.words p v row ∙ h.has_indices row,
    )

pub HasShape-with_wanted : (r : Registers) (dir : Dir) (queue : ℕ) (wanted : Bool) → HasShape r
    → HasShape (with_wanted r dir queue wanted)
HasShape-with_wanted r Rx queue wanted h = assumption (length-set r.wanted_rx queue wanted ∙ h.wanted_rx)
HasShape-with_wanted r Tx queue wanted h = assumption (length-set r.wanted_tx queue wanted ∙ h.wanted_tx)

pub HasShape-with_reported : (r : Registers) (g : Group) (reported : ℕ) → HasShape r →
    HasShape (with_reported r g reported)
HasShape-with_reported r Pf reported h = assumption
HasShape-with_reported r (Vf v) reported h = assumption (length-set r.reported_vf v reported ∙ h.reported_vf)

pub HasShape-with_interrupts : (r : Registers) (s : Interrupts) → HasShape r → HasShape (with_interrupts r s)
HasShape-with_interrupts r s h =
    HasShape-with_reported _ s.group s.reported
    (HasShape-put _ (place (mask_row s.group) (index_of s.group)) s.enabled
    (HasShape-put r (place (cause_row s.group) (index_of s.group)) s.causes h))
