-- Lemmas about the words of sound registers, proved from the bits that their rows can have.
use Rattle.std.proofs.Common.{◌≡◌, ℕ, ◌+◌, ◌*◌, ◌%◌, ◌^◌, ◌||◌, true, false, refl, ap, sym, ◌∙◌, arith}
use Rattle.std.specs.Prelude.{bit_and}
use Rattle.std.specs.Int.Bits.{and_zero_r}
use Rattle.std.proofs.lemmas.Nat.{and_mod}
use Rattle.register_file.specs.RegTable.declared.rows.RowId.TheVariants as row
use Rattle.register_laws.specs.Prelude.{IsSubset, Registers, RowId, Rx, Tx, asks_reset, contains, has_bit, place}
use Rattle.register_laws.specs.Prelude.{row_of, word_at, word_of}
use Rattle.register_laws.proofs.Prelude.{both_ways, false_from_ne_true}
use Rattle.register_laws.specs.Sound.{AreSound, bits_of_row}
use Rattle.register_laws.specs.SoundWords.{keeps_none, ActingWordsAreNone, NoWordAsksReset, RingsAreAligned}
use Rattle.register_laws.proofs.RowBits.{and-within}

-- A register that stores no word.
acting_bits : (row : RowId) → keeps_none (row_of row).kind ≡ true → bits_of_row row ≡ 0
acting_bits row.Status is = refl
acting_bits row.Links is = refl
acting_bits row.Eec is = refl
acting_bits row.Pvfctrl is = refl
acting_bits row.Eics is = refl
acting_bits row.Eimc is = refl
acting_bits row.Pvteics is = refl
acting_bits row.Pvteimc is = refl
acting_bits row.Pfmailbox is = refl
acting_bits other is = absurd (both_ways (keeps_none (row_of other).kind) refl is)

pub acting_none : ActingWordsAreNone
acting_none r sound p is =
    let word = word_at r.words p in
    sym (and-within word (bits_of_row p.row) (sound.words p)) ∙ ap (bit_and word) (acting_bits p.row is)
    ∙ and_zero_r word

-- A bit that the row can't have is 0.
no_bit : (word bits bit : ℕ) → IsSubset word bits → contains bits bit ≡ false → has_bit bit word ≡ false
unfolding contains
no_bit word bits bit within none =
    false_from_ne_true (has_bit bit word) (λ is. both_ways (contains bits bit) none (within.member bit is))

neither : (word : ℕ) → IsSubset word 0xFBFFFFF7 → (has_bit 3 word || has_bit 26 word) ≡ false
unfolding contains
neither word within = rw (no_bit word 0xFBFFFFF7 3 within refl, no_bit word 0xFBFFFFF7 26 within refl) refl

asks_none : (row : RowId) (word : ℕ) → IsSubset word (bits_of_row row) → asks_reset (row_of row).kind word ≡ false
asks_none row.Ctrl word within = neither word within
asks_none other word within = refl

pub no_word_asks : NoWordAsksReset
no_word_asks r sound p = asks_none p.row (word_at r.words p) (sound.words p)

-- The words of a row without the low seven bits.
pub low_bits : (r : Registers) → AreSound r → (row : RowId) (index : ℕ) → bits_of_row row % 2 ^ 7 ≡ 0
    → word_of r row index % 2 ^ 7 ≡ 0
low_bits r sound row index none =
    let word = word_of r row index in
    let bits = bits_of_row row in
    ap (λ (n : ℕ). n % 2 ^ 7) (sym (and-within word bits (sound.words (place row index)))) ∙ and_mod word bits 7
    ∙ ap (bit_and (word % 2 ^ 7)) none ∙ and_zero_r (word % 2 ^ 7)

base_low : (high low : ℕ) → (high * 2 ^ 32 + low) % 128 ≡ low % 2 ^ 7
base_low high low = omega arith

length_low : (word : ℕ) → word % 2 ^ 20 % 128 ≡ word % 2 ^ 7
length_low word = omega arith

pub rings_aligned : RingsAreAligned
rings_aligned r sound Rx queue = record {
  base = base_low _ (word_of r row.Rdbal queue) ∙ low_bits r sound row.Rdbal queue refl;
  length = length_low (word_of r row.Rdlen queue) ∙ low_bits r sound row.Rdlen queue refl;
}
rings_aligned r sound Tx queue = record {
  base = base_low _ (word_of r row.Tdbal queue) ∙ low_bits r sound row.Tdbal queue refl;
  length = length_low (word_of r row.Tdlen queue) ∙ low_bits r sound row.Tdlen queue refl;
}
