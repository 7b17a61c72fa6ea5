-- Bits that a group's registers don't have read as 0.
use Rattle.std.proofs.Common.{◌≡◌, ℕ, false, ◌==◌, ap, ◌∙◌}
use Rattle.std.proofs.lemmas.Nat.Bits.{bit_at_ones_above}
use Rattle.nic_device.specs.RegTable.declared.rows.RowId.TheVariants.{Eicr, Eims, Eiac, Eiam, Pvteicr, Pvteims, Pvteiac, Pvteiam}
use Rattle.nic_device.specs.IntrUnit.BitSet.{contains, IsSubset}
use Rattle.datasheet_laws.specs.Prelude.{Pf, Vf, has_bit, place, word_at}
use Rattle.datasheet_laws.proofs.Prelude.{both_ways, false_from_ne_true}
use Rattle.datasheet_laws.specs.Accesses.{OtherBitsReadZero}
use Rattle.datasheet_laws.proofs.Words.{bit_of-words}

outside : (word bits bit : ℕ) → IsSubset word bits → has_bit bit bits ≡ false → has_bit bit word ≡ false
unfolding contains
outside word bits bit within none =
    false_from_ne_true (has_bit bit word) (λ t. both_ways (has_bit bit bits) none (within.member bit t))

pub other_bits : OtherBitsReadZero
other_bits s h Pf there bit high b =
    let words = s.registers.words in
    let none : has_bit bit 0x7FFFFFFF ≡ false = ap (λ n. n == 1) (bit_at_ones_above 31 bit high) in
    let cause = outside (word_at words (place Eicr 0)) 0x7FFFFFFF bit (h.registers.words (place Eicr 0)) none in
    let mask = outside (word_at words (place Eims 0)) 0x7FFFFFFF bit (h.registers.words (place Eims 0)) none in
    let clear = outside (word_at words (place Eiac 0)) 0x7FFFFFFF bit (h.registers.words (place Eiac 0)) none in
    let auto = outside (word_at words (place Eiam 0)) 0x7FFFFFFF bit (h.registers.words (place Eiam 0)) none in
    bit_of-words s Pf there bit b
    ∙ (λ k. record { cause = cause k; mask = mask k; auto_clear = clear k; auto_mask = auto k })
other_bits s h (Vf v) there bit high b =
    let words = s.registers.words in
    let none : has_bit bit 7 ≡ false = ap (λ n. n == 1) (bit_at_ones_above 3 bit high) in
    let cause = outside (word_at words (place Pvteicr v)) 7 bit (h.registers.words (place Pvteicr v)) none in
    let mask = outside (word_at words (place Pvteims v)) 7 bit (h.registers.words (place Pvteims v)) none in
    let clear = outside (word_at words (place Pvteiac v)) 7 bit (h.registers.words (place Pvteiac v)) none in
    let auto = outside (word_at words (place Pvteiam v)) 7 bit (h.registers.words (place Pvteiam v)) none in
    bit_of-words s (Vf v) there bit b
    ∙ (λ k. record { cause = cause k; mask = mask k; auto_clear = clear k; auto_mask = auto k })
