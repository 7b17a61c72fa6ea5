-- Registers that agree in a pool still agree after the pool's reset.
use Rattle.std.proofs.Common.{◌≡◌, ℕ, ◌<◌, false, ap, sym, ◌∙◌, inl, inr, arith}
use Rattle.register_laws.specs.Prelude.{Dir, Group, Pf, Place, Registers, Rx, Tx, Vf, has_bit, index_of, is_wanted}
use Rattle.register_laws.specs.Prelude.{pool_reset, reported_by, row_of, row_words, word_at}
use Rattle.register_laws.proofs.Prelude.{cases_Bool, cases_lt, get_or_past}
use Rattle.register_laws.specs.Agreement.{PoolResetKeepsAgreement}
use Rattle.register_laws.specs.Footprint.{Footprint, pool_renews}
use Rattle.register_laws.specs.Sound.{HasShape}
use Rattle.register_laws.proofs.Bits.{same_word}
use Rattle.register_laws.proofs.PoolReset.{renewed-pool}

-- Past the end, words are 0 and nothing is requested.
word_past : (r : Registers) → HasShape r → (p : Place) → (p.index < (row_of p.row).count → ⊥) → word_at r.words p ≡ 0
word_past r h p out =
    let short = h.has_indices p.row in
    get_or_past (row_words r.words p.row) p.index 0 (omega arith)

wanted_past : (r : Registers) → HasShape r → (dir : Dir) (queue : ℕ) → (queue < 128 → ⊥) → is_wanted r dir queue ≡ false
wanted_past r h Rx queue out = let short = h.wanted_rx in get_or_past r.wanted_rx queue false (omega arith)
wanted_past r h Tx queue out = let short = h.wanted_tx in get_or_past r.wanted_tx queue false (omega arith)

reported_past : (r : Registers) → HasShape r → (g : Group) → (index_of g < 64 → ⊥) → reported_by r g ≡ 0
reported_past r h Pf out = absurd (out (omega arith))
reported_past r h (Vf v) out = let short = h.reported_vf in get_or_past r.reported_vf v 0 (omega arith)

pub agree-reset : PoolResetKeepsAgreement
agree-reset mode v a b ha hb same =
    let left = renewed-pool a mode v in
    let right = renewed-pool b mode v in
    let new_a : Registers = pool_reset mode v a in
    let new_b : Registers = pool_reset mode v b in
    let taken : Footprint = pool_renews mode v in
    record {
      words = λ p is. elim (cases_lt p.index (row_of p.row).count) as
          (λ _. word_at new_a.words p ≡ word_at new_b.words p) [
            | inl inside ↦ same_word (λ bit. elim (cases_Bool (taken.bits p bit)) as
                (λ _. has_bit bit (word_at new_a.words p) ≡ has_bit bit (word_at new_b.words p)) [
                  | inl on ↦ left.bits ha p bit on inside ∙ sym (right.bits hb p bit on inside)
                  | inr off ↦ left.alone.bits p bit off ∙ ap (has_bit bit) (same.words p is)
                      ∙ sym (right.alone.bits p bit off)
                ])
            | inr past ↦
                let out : p.index < (row_of p.row).count → ⊥ = λ h. omega arith in
                word_past new_a (left.shape ha) p out ∙ sym (word_past new_b (right.shape hb) p out)
          ];
      wanted = λ dir queue is. elim (cases_lt queue 128) as
          (λ _. is_wanted new_a dir queue ≡ is_wanted new_b dir queue) [
            | inl inside ↦ left.wanted ha dir queue is inside ∙ sym (right.wanted hb dir queue is inside)
            | inr past ↦
                let out : queue < 128 → ⊥ = λ h. omega arith in
                wanted_past new_a (left.shape ha) dir queue out ∙ sym (wanted_past new_b (right.shape hb) dir queue out)
          ];
      reported = λ g is. elim (cases_lt (index_of g) 64) as (λ _. reported_by new_a g ≡ reported_by new_b g) [
        | inl inside ↦ left.reported ha g is inside ∙ sym (right.reported hb g is inside)
        | inr past ↦
            let out : index_of g < 64 → ⊥ = λ h. omega arith in
            reported_past new_a (left.shape ha) g out ∙ sym (reported_past new_b (right.shape hb) g out)
      ];
    }
