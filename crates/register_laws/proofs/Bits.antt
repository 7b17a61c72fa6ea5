-- Lemmas about single bits of words.
use Rattle.std.proofs.Common.{◌≡◌, ℕ, ◌+◌, ◌-◌, ◌/◌, ◌%◌, ◌^◌, ◌<◌, ◌≤◌, Bool, true, false, cond, ap, ◌∙◌, inl, inr, arith, ◌==◌}
use Rattle.std.specs.Prelude.{bit_and, bit_xor, min, max}
use Rattle.std.proofs.Math.Nat.{add-div_right, div-eq_of_lt, div-eq-sub-div}
use Rattle.std.proofs.lemmas.Bool.{cases_Bool, cases_lt, cond-true, cond-false, eq-eqb, ne_eqb, eqb-true, eqb-false}
use Rattle.std.specs.Int.{bit_at, w32}
use Rattle.std.proofs.lemmas.Nat.{and_le_l, pow_pos}
use Rattle.std.proofs.lemmas.Nat.Bits.{bit_at_and, bit_at_or, bit_at_xor, bit_at_not, bit_at-lt, same_from_bits}
use Rattle.register_laws.specs.Prelude.{bit_cleared, bit_set, has_bit, merged, mixed}
use Rattle.register_laws.proofs.Prelude.{nat_tests}

-- Numbers with the same bits are equal.
one_digit : (a b : ℕ) → a < 2 → b < 2 → (a == 1) ≡ (b == 1) → a ≡ b
one_digit a b small other e = grind (arith, nat_tests)

pub same_word : {m n : ℕ} → ((bit : ℕ) → has_bit bit m ≡ has_bit bit n) → m ≡ n
same_word {m} {n} each =
    same_from_bits m n (λ bit. one_digit (bit_at m bit) (bit_at n bit) (bit_at-lt m bit) (bit_at-lt n bit) (each bit))

-- The bits of a number, with the bits of a mask taken from another number.
mixed_digit : (old new mask : ℕ) → old < 2 → new < 2 → mask < 2
    → ((old + min ((old + new) % 2) mask) % 2 == 1) ≡ cond (mask == 1) (new == 1) (old == 1)
mixed_digit old new mask a b c = grind (arith, nat_tests)

pub has_bit-mixed : (bit mask old new : ℕ)
    → has_bit bit (mixed mask old new) ≡ cond (has_bit bit mask) (has_bit bit new) (has_bit bit old)
has_bit-mixed bit mask old new =
    ap (λ n. n == 1) (
    bit_at_xor old (bit_and (bit_xor old new) mask) bit
    ∙ ap (λ n. (bit_at old bit + n) % 2) (bit_at_and (bit_xor old new) mask bit
    ∙ ap (λ n. min n (bit_at mask bit)) (bit_at_xor old new bit))
    )
    ∙ mixed_digit (bit_at old bit) (bit_at new bit) (bit_at mask bit) (bit_at-lt old bit) (bit_at-lt new bit)
    (bit_at-lt mask bit)

kept_bit : (x y : ℕ) → x < 2 → max (min x 1) (min y 0) ≡ x
kept_bit x y h = omega arith

-- A merge keeps a bit that isn't in its mask.
pub has_bit-merged_out : (bit mask old new : ℕ) → bit < 32 → mask < 2 ^ 32 → bit_at mask bit ≡ 0
    → has_bit bit (merged mask old new) ≡ has_bit bit old
has_bit-merged_out bit mask old new b small out =
    let turned : bit_at (0xFFFFFFFF - mask) bit ≡ 1 = bit_at_not w32 mask bit small b ∙ ap (λ n. 1 - n) out in
    ap (λ n. n == 1) (
    bit_at_or (bit_and old (0xFFFFFFFF - mask)) (bit_and new mask) bit
    ∙ ap (λ n. max n (bit_at (bit_and new mask) bit)) (bit_at_and old (0xFFFFFFFF - mask) bit
    ∙ ap (λ n. min (bit_at old bit) n) turned)
    ∙ ap (λ n. max (min (bit_at old bit) 1) n) (bit_at_and new mask bit ∙ ap (λ n. min (bit_at new bit) n) out)
    ∙ kept_bit (bit_at old bit) (bit_at new bit) (bit_at-lt old bit)
    )

-- The mask of an enable word, restricted to a view, doesn't have bit 25.
pub has_bit-enable : (view old new : ℕ) → has_bit 25 (merged (bit_and 0xFDFFFFFF view) old new) ≡ has_bit 25 old
has_bit-enable view old new =
    let mask : ℕ = bit_and 0xFDFFFFFF view in
    let low : mask ≤ 0xFDFFFFFF = and_le_l 0xFDFFFFFF view in
    let small : mask < 2 ^ 32 = omega arith in
    let zero_min : (n : ℕ) → min 0 n ≡ 0 = λ n. omega arith in
    has_bit-merged_out 25 mask old new (omega arith) small (bit_at_and 0xFDFFFFFF view 25 ∙ zero_min (bit_at view 25))

-- A bit after it is set, cleared, or set to the requested value.
added : (w n : ℕ) → 0 < n → (w / n % 2 ≡ 1 → ⊥) → (w + n) / n % 2 ≡ 1
added w n h unset = let more = add-div_right w h in omega arith

taken : (w n : ℕ) → 0 < n → w / n % 2 ≡ 1 → ((w - n) / n % 2 ≡ 1 → ⊥)
taken w n h is still =
    elim (cases_lt w n) [
      | inl low ↦ let none = div-eq_of_lt low in absurd (omega arith)
      | inr high ↦ let less = div-eq-sub-div h high in absurd (omega arith)
    ]

pub has_bit-set : (bit word : ℕ) → has_bit bit (bit_set bit word) ≡ true
has_bit-set bit word =
    elim (cases_Bool (has_bit bit word)) as (λ _. has_bit bit (bit_set bit word) ≡ true) [
      | inl t ↦ ap (has_bit bit) (cond-true (has_bit bit word) word (word + 2 ^ bit) t) ∙ t
      | inr f ↦ ap (has_bit bit) (cond-false (has_bit bit word) word (word + 2 ^ bit) f)
          ∙ eq-eqb _ _ (added word (2 ^ bit) (pow_pos bit) (eqb-false _ _ f))
    ]

pub has_bit-clear : (bit word : ℕ) → has_bit bit (bit_cleared bit word) ≡ false
has_bit-clear bit word =
    elim (cases_Bool (has_bit bit word)) as (λ _. has_bit bit (bit_cleared bit word) ≡ false) [
      | inl t ↦ ap (has_bit bit) (cond-true (has_bit bit word) (word - 2 ^ bit) word t)
          ∙ ne_eqb _ _ (taken word (2 ^ bit) (pow_pos bit) (eqb-true _ _ t))
      | inr f ↦ ap (has_bit bit) (cond-false (has_bit bit word) (word - 2 ^ bit) word f) ∙ f
    ]

pub has_bit-cleared : (word : ℕ) → has_bit 25 (bit_cleared 25 word) ≡ false
has_bit-cleared word = has_bit-clear 25 word

pub has_bit-switch : (wanted : Bool) (word : ℕ)
    → has_bit 25 (cond wanted (bit_set 25 word) (bit_cleared 25 word)) ≡ wanted
has_bit-switch true word = has_bit-set 25 word
has_bit-switch false word = has_bit-cleared word
