-- Rows still hold valid words after a write stores bits in them.
use Rattle.std.proofs.Common.{◌≢◌, ◌≡◌, ℕ, ◌<◌, true, max, min, bit_and, bit_or, eqb, refl, ap, ◌∙◌, sym, ◌⊎◌, inl, inr, arith}
use Rattle.std.specs.Int.{bit_at}
use Rattle.std.proofs.lemmas.Nat.Bits.{bit_at_and, bit_at_or, bit_at-lt}
use Rattle.std.proofs.lemmas.Bool.Decides.{nat_tests}
use Rattle.intr_unit.specs.BitSet.{BitSet, contains, bits_below, bits_where, bits_from_to, IsSubset}
use Rattle.intr_unit.specs.Group.{group_bits}
use Rattle.intr_unit.specs.declared.group.Group.TheVariants.{Pf, Vf}
use Rattle.reg_table.specs.Rows.{row_of}
use Rattle.reg_table.specs.declared.kind.Kind.TheVariants as kind
use Rattle.reg_table.specs.declared.rows.RowId.{RowId}
use Rattle.reg_table.specs.declared.rows.RowId.TheVariants.{Eiac, Eiam, Pvteiac, Pvteiam}
use Rattle.register_file.specs.Bits.{merged}
use Rattle.register_file.specs.Storing.{IsWordOf}

one_of_digits : (o x w m v : ℕ) → o < 2 → m < 2 → eqb (max (min o x) (min w (min m v))) 1 ≡ true
    → (eqb o 1 ≡ true) ⊎ (eqb m 1 ≡ true)
one_of_digits o x w m v p q e = grind (arith, nat_tests)

contains-stored : (old x word mask view k : ℕ)
    → contains (bit_or (bit_and old x) (bit_and word (bit_and mask view))) k ≡ true
    → (contains old k ≡ true) ⊎ (contains mask k ≡ true)
unfolding contains
contains-stored old x word mask view k h =
    let digits : bit_at (bit_or (bit_and old x) (bit_and word (bit_and mask view))) k
    ≡ max (min (bit_at old k) (bit_at x k)) (min (bit_at word k) (min (bit_at mask k) (bit_at view k))) =
    bit_at_or (bit_and old x) (bit_and word (bit_and mask view)) k
    ∙ (λ i. max (bit_at_and old x k i)
    ((bit_at_and word (bit_and mask view) k ∙ ap (min (bit_at word k)) (bit_at_and mask view k)) i)) in
    one_of_digits (bit_at old k) (bit_at x k) (bit_at word k) (bit_at mask k) (bit_at view k) (bit_at-lt old k)
    (bit_at-lt mask k)
    (sym (ap (λ d. eqb d 1) digits) ∙ h)

stored_within : (old x word mask view : ℕ) (bits : BitSet) → mask ≡ bits → IsSubset old bits
    → IsSubset (bit_or (bit_and old x) (bit_and word (bit_and mask view))) bits
stored_within old x word mask view bits same within = record {
  member = λ k h. elim (contains-stored old x word mask view k h) [
    | inl o ↦ within.member k o
    | inr m ↦ sym (ap (λ s. contains s k) same) ∙ m
  ];
}

pf_mask : 0x7FFFFFFF ≡ group_bits Pf
unfolding group_bits bits_from_to bits_where bits_below
pf_mask = refl

vf_mask : (v : ℕ) → 7 ≡ group_bits (Vf v)
unfolding group_bits bits_from_to bits_where bits_below
vf_mask v = refl

-- A valid word of a row stays valid after bits of the row's mask are stored in it.
pub still_word : (row : RowId) (index view old word : ℕ) → IsWordOf row index old
    → IsWordOf row index (merged (bit_and (row_of row).mask view) old word)
still_word Eiac index view old word h = stored_within old _ word 0x7FFFFFFF view (group_bits Pf) pf_mask h
still_word Eiam index view old word h = stored_within old _ word 0x7FFFFFFF view (group_bits Pf) pf_mask h
still_word Pvteiac index view old word h = stored_within old _ word 7 view (group_bits (Vf index)) (vf_mask index) h
still_word Pvteiam index view old word h = stored_within old _ word 7 view (group_bits (Vf index)) (vf_mask index) h
still_word other index view old word h = tt

-- A row other than the groups' auto-clear and auto-mask can hold any word.
pub free_word : (row : RowId) (index word : ℕ) → row ≢ Eiac → row ≢ Eiam → row ≢ Pvteiac → row ≢ Pvteiam
    → IsWordOf row index word
free_word Eiac index word clear mask own_clear own_mask = absurd (clear refl)
free_word Eiam index word clear mask own_clear own_mask = absurd (mask refl)
free_word Pvteiac index word clear mask own_clear own_mask = absurd (own_clear refl)
free_word Pvteiam index word clear mask own_clear own_mask = absurd (own_mask refl)
free_word other index word clear mask own_clear own_mask = tt

-- A row of a kind other than plain read-write can hold any word.
pub other_word : (row : RowId) (index word : ℕ) → (row_of row).kind ≢ kind.Rw → IsWordOf row index word
other_word Eiac index word n = absurd (n refl)
other_word Eiam index word n = absurd (n refl)
other_word Pvteiac index word n = absurd (n refl)
other_word Pvteiam index word n = absurd (n refl)
other_word other index word n = tt

pub counter_word : (row : RowId) (index word : ℕ) → (row_of row).kind ≡ kind.Rc → IsWordOf row index word
counter_word row index word h = other_word row index word (λ e. cc)

pub read_only_word : (row : RowId) (index word : ℕ) → (row_of row).kind ≡ kind.Ro → IsWordOf row index word
read_only_word row index word h = other_word row index word (λ e. cc)
