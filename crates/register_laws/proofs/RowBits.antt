-- Lemmas about words that contain only bits that their row can have.
use Rattle.std.proofs.Common.{◌≡◌, ℕ, ◌-◌, ◌<◌, ◌≤◌, ◌^◌, true, sym, ◌∙◌, subst, inl, inr, arith, lit<}
use Rattle.std.specs.Prelude.{bit_and, bit_or, min, max, ◌⊎◌}
use Rattle.std.proofs.lemmas.Bool.{cases_Bool, cases_lt, eq-eqb, eqb-true}
use Rattle.std.proofs.lemmas.Nat.{and_le_r}
use Rattle.std.proofs.lemmas.Nat.Bits.{bit_at_and, bit_at_or, bit_at-lt, bit_at_above, bit_at_ones, same_from_bits}
use Rattle.register_file.specs.RegTable.declared.rows.RowId.TheVariants as row
use Rattle.register_laws.specs.Prelude.{BitSet, IsSubset, Place, Registers, RowId, bit_at, contains, merged, put}
use Rattle.register_laws.specs.Prelude.{reset_registers, row_of, row_words, word_at}
use Rattle.register_laws.proofs.Prelude.{IsSubset-no_bits, get_or_past, word_at-reset}
use Rattle.register_laws.specs.Footprint.{is_place}
use Rattle.register_laws.specs.Sound.{HasShape, AreSound, bits_of_kind, bits_of_row}
use Rattle.register_laws.proofs.Owners.{apart, is_place-itself, is_place-same}
use Rattle.register_laws.proofs.Puts.{word_at-put_other}
use Rattle.register_laws.proofs.Shape.{put_stands, HasShape-reset, HasShape-put}

-- Which bits are in which set.

has : (set bit : ℕ) → contains set bit ≡ true → bit_at set bit ≡ 1
unfolding contains
has set bit h = eqb-true _ _ h

is_in : (set bit : ℕ) → bit_at set bit ≡ 1 → contains set bit ≡ true
unfolding contains
is_in set bit h = eq-eqb _ _ h

-- A set is within another if each of its 1 bits is.
within_by : (a b : BitSet) → ((bit : ℕ) → bit_at a bit ≡ 1 → bit_at b bit ≡ 1) → IsSubset a b
within_by a b each = record { member = λ k h. is_in b k (each k (has a k h)) }

bit_of : (a b : BitSet) → IsSubset a b → (bit : ℕ) → bit_at a bit ≡ 1 → bit_at b bit ≡ 1
bit_of a b s bit h = has b bit (s.member bit (is_in a bit h))

pub IsSubset-trans : (a b c : BitSet) → IsSubset a b → IsSubset b c → IsSubset a c
IsSubset-trans a b c first second = record { member = λ k h. second.member k (first.member k h) }

pub IsSubset-or_left : (a b : BitSet) → IsSubset a (bit_or a b)
IsSubset-or_left a b = within_by a (bit_or a b) (λ k h.
    let small = bit_at-lt b k in
    bit_at_or a b k ∙ omega arith)

pub IsSubset-or_right : (a b : BitSet) → IsSubset b (bit_or a b)
IsSubset-or_right a b = within_by b (bit_or a b) (λ k h.
    let small = bit_at-lt a k in
    bit_at_or a b k ∙ omega arith)

pub IsSubset-and_left : (a b : BitSet) → IsSubset (bit_and a b) a
IsSubset-and_left a b = within_by (bit_and a b) a (λ k h.
    let both : min (bit_at a k) (bit_at b k) ≡ 1 = sym (bit_at_and a b k) ∙ h in
    let small = bit_at-lt a k in
    omega arith)

-- A word of `n` bits.
pub IsSubset-ones : (n word : ℕ) → word < 2 ^ n → IsSubset word (2 ^ n - 1)
IsSubset-ones n word small = within_by word (2 ^ n - 1) (λ k h.
    elim (cases_lt k n) as (λ _. bit_at (2 ^ n - 1) k ≡ 1) [
      | inl low ↦ bit_at_ones n k low
      | inr high ↦ let none = bit_at_above word n k small high in absurd (omega arith)
    ])

one_of_two : (a b c d : ℕ) → max (min a b) (min c d) ≡ 1 → a < 2 → b < 2 → c < 2 → d < 2 → (a ≡ 1) ⊎ (d ≡ 1)
one_of_two a b c d h sa sb sc sd = elim (cases_lt a 1) [
  | inl none ↦ inr (omega arith)
  | inr one ↦ inl (omega arith)
]

-- A merge takes bits of its mask.
pub IsSubset-merged : (mask old new outer : ℕ) → IsSubset old outer → IsSubset mask outer
    → IsSubset (merged mask old new) outer
IsSubset-merged mask old new outer kept taken = within_by (merged mask old new) outer (λ k h.
    let rest = 0xFFFFFFFF - mask in
    let parts : max (min (bit_at old k) (bit_at rest k)) (min (bit_at new k) (bit_at mask k)) ≡ 1 =
    (λ j. max (sym (bit_at_and old rest k) j) (sym (bit_at_and new mask k) j))
    ∙ sym (bit_at_or (bit_and old rest) (bit_and new mask) k) ∙ h in
    elim (one_of_two _ _ _ _ parts (bit_at-lt old k) (bit_at-lt rest k) (bit_at-lt new k) (bit_at-lt mask k))
    as (λ _. bit_at outer k ≡ 1) [
      | inl own ↦ bit_of old outer kept k own
      | inr given ↦ bit_of mask outer taken k given
    ])

-- The union of two sets is within any set that contains both.
joined_digit : (a b : ℕ) → max a b ≡ 1 → a < 2 → b < 2 → (a ≡ 1) ⊎ (b ≡ 1)
joined_digit a b h sa sb = elim (cases_lt a 1) [
  | inl none ↦ inr (omega arith)
  | inr one ↦ inl (omega arith)
]

pub IsSubset-or : (a b outer : ℕ) → IsSubset a outer → IsSubset b outer → IsSubset (bit_or a b) outer
IsSubset-or a b outer first second = within_by (bit_or a b) outer (λ k h.
    elim (joined_digit (bit_at a k) (bit_at b k) (sym (bit_at_or a b k) ∙ h) (bit_at-lt a k) (bit_at-lt b k))
    as (λ _. bit_at outer k ≡ 1) [
      | inl own ↦ bit_of a outer first k own
      | inr other ↦ bit_of b outer second k other
    ])

-- The intersection of a word with a set that contains it is the word.
shared : (x y : ℕ) → x < 2 → (x ≡ 1 → y ≡ 1) → min x y ≡ x
shared x y small h = elim (cases_lt x 1) as (λ _. min x y ≡ x) [
  | inl none ↦ omega arith
  | inr one ↦ let is : x ≡ 1 = omega arith in let other = h is in omega arith
]

pub and-within : (a b : BitSet) → IsSubset a b → bit_and a b ≡ a
and-within a b s = same_from_bits (bit_and a b) a (λ k.
    bit_at_and a b k ∙ shared (bit_at a k) (bit_at b k) (bit_at-lt a k) (bit_of a b s k))

-- The bits of rows.

bits_small : (row : RowId) → bits_of_row row < 2 ^ 32
bits_small row.Ctrl = lit< tt
bits_small other = lit< tt

pub mask_small : (row : RowId) → (row_of row).mask < 2 ^ 32
mask_small row.Ctrl = lit< tt
mask_small other = lit< tt

-- Each word has 32 bits.
pub word_small : (r : Registers) → AreSound r → (p : Place) → word_at r.words p < 2 ^ 32
word_small r sound p =
    let word = word_at r.words p in
    let low = subst (λ n. n ≤ bits_of_row p.row) (and-within word (bits_of_row p.row) (sound.words p))
    (and_le_r word (bits_of_row p.row)) in
    let few = bits_small p.row in
    omega arith

-- The bits that can become 1 in a word of its row.
pub within_row : (row : RowId) (word : ℕ) → IsSubset word (bits_of_kind (row_of row).kind (row_of row).mask)
    → IsSubset word (bits_of_row row)
within_row row word h =
    IsSubset-trans word _ (bits_of_row row) h
    (IsSubset-or_right (row_of row).reset (bits_of_kind (row_of row).kind (row_of row).mask))

abbrev pub HaveRowBits : Registers → Type 0
HaveRowBits r = (p : Place) → IsSubset (word_at r.words p) (bits_of_row p.row)

-- Past the end of a row there is no word.
pub bits_where_inside : (r : Registers) → HasShape r → (p : Place)
    → (p.index < (row_of p.row).count → IsSubset (word_at r.words p) (bits_of_row p.row))
    → IsSubset (word_at r.words p) (bits_of_row p.row)
bits_where_inside r shape p inside =
    elim (cases_lt p.index (row_of p.row).count) as (λ _. IsSubset (word_at r.words p) (bits_of_row p.row)) [
      | inl b ↦ inside b
      | inr past ↦
          let short = shape.has_indices p.row in
          rw (get_or_past (row_words r.words p.row) p.index 0 (omega arith)) (IsSubset-no_bits (bits_of_row p.row))
    ]

pub row_bits-put : (r : Registers) (p : Place) (v : ℕ) → HasShape r → HaveRowBits r → IsSubset v (bits_of_row p.row)
    → HaveRowBits (record r { words = put r.words p v })
row_bits-put r p v shape words own q =
    elim (cases_Bool (is_place p q)) as (λ _. IsSubset (word_at (put r.words p v) q) (bits_of_row q.row)) [
      | inr other ↦ rw (word_at-put_other r.words p q v (apart (is_place p) p q (is_place-itself p) other)) (words q)
      | inl same ↦ subst (λ x. IsSubset (word_at (put r.words p v) x) (bits_of_row x.row)) (is_place-same p q same)
          (bits_where_inside (record r { words = put r.words p v }) (HasShape-put r p v shape) p
          (λ b. rw (put_stands r p v shape b) own))
    ]

-- After a reset.
pub reset_bits : (row : RowId) → IsSubset (row_of row).reset (bits_of_row row)
reset_bits row = IsSubset-or_left (row_of row).reset (bits_of_kind (row_of row).kind (row_of row).mask)

pub row_bits-reset : HaveRowBits reset_registers
row_bits-reset p = bits_where_inside reset_registers HasShape-reset p (λ b. rw (word_at-reset p b) (reset_bits p.row))
