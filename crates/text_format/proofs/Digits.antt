-- Proves that capping a value at 2^32 keeps every smaller value exact, and reports every larger value as 2^32.
use Rattle.std.proofs.Common.{refl, ap, arith, sym, ◌∙◌, ◌≡◌, ◌<◌, ◌≤◌, ℕ, ◌+◌, ◌*◌, Bool, true, false, nat_lt, List, [], ◌∷◌, length, ◌^◌, ◌==◌, ◌&&◌, min, Some, None, Ok, Err, if◌then◌else◌, inl, inr}
use Rattle.std.specs.List.{list_all}
use Rattle.std.specs.Char.{is_digit, digit_value}
use Rattle.std.specs.Str.Parse.{digits_value, digits_value_after}
use Rattle.std.proofs.lemmas.Bool.{cases_Bool, cases_lt, lt-ltb}
use Rattle.std.proofs.Math.Nat.{min-eq_left, min-eq_right, le-mul_of_pos_right}
use Rattle.text_format.specs.Number.{numeral_of, capped_numeral}
use Rattle.text_format.specs.declared.numbers.NumberFault.TheVariants.{Malformed, TooLarge}
use borrow.Author.Tests.{le-ltb}

-- A value may also be capped before the next digit is added.
capped_step : (radix value digit : ℕ) → 1 ≤ radix
    → min (min value (2 ^ 32) * radix + digit) (2 ^ 32) ≡ min (value * radix + digit) (2 ^ 32)
capped_step radix value digit low = elim (cases_lt value (2 ^ 32)) [
  | inl below ↦
      let same : min value (2 ^ 32) ≡ value = min-eq_left (omega arith) in
      ap (λ n. min (n * radix + digit) (2 ^ 32)) same
  | inr above ↦
      let cap : min value (2 ^ 32) ≡ 2 ^ 32 = min-eq_right above in
      let grown : value ≤ value * radix = le-mul_of_pos_right value (omega arith) in
      let large : min (2 ^ 32 * radix + digit) (2 ^ 32) ≡ 2 ^ 32 = min-eq_right (omega arith) in
      let larger : min (value * radix + digit) (2 ^ 32) ≡ 2 ^ 32 = min-eq_right (omega arith) in
      ap (λ n. min (n * radix + digit) (2 ^ 32)) cap ∙ large ∙ sym larger
]

abbrev Capped : ℕ → ℕ → List ℕ → Type 0
Capped radix value word = capped_numeral radix (min value (2 ^ 32)) word
    ≡ (if list_all (λ byte. is_digit byte radix) word then Some (min (digits_value_after radix value word) (2 ^ 32))
    else None)

capped_more : (digit : Bool) (radix value byte : ℕ) (more : List ℕ) → 1 ≤ radix
    → Capped radix (value * radix + digit_value byte) more
    → (if digit then capped_numeral radix (min (min value (2 ^ 32) * radix + digit_value byte) (2 ^ 32)) more else None)
    ≡ (if digit && list_all (λ b. is_digit b radix) more
    then Some (min (digits_value_after radix (value * radix + digit_value byte) more) (2 ^ 32)) else None)
capped_more true radix value byte more low rest =
    ap (λ n. capped_numeral radix n more) (capped_step radix value (digit_value byte) low) ∙ rest
capped_more false radix value byte more low rest = refl

capped_numeral-is : (radix value : ℕ) (word : List ℕ) → 1 ≤ radix → Capped radix value word
capped_numeral-is radix value [] low = refl
capped_numeral-is radix value (byte ∷ more) low = capped_more (is_digit byte radix) radix value byte more low
    (capped_numeral-is radix (value * radix + digit_value byte) more low)

pub numeral_of-none : (radix : ℕ) (word : List ℕ) → 2 ≤ radix → (length word == 0) ≡ false
    → capped_numeral radix 0 word ≡ None → Err Malformed ≡ numeral_of radix word
numeral_of-none radix word low some none =
    let known = capped_numeral-is radix 0 word (omega arith) in
    elim (cases_Bool (list_all (λ byte. is_digit byte radix) word)) [
      | inl all ↦ let is = rw all at known in cc
      | inr other ↦ sym (simp (some, other) refl)
    ]

pub numeral_of-value : (radix value : ℕ) (word : List ℕ) → 2 ≤ radix → (length word == 0) ≡ false
    → capped_numeral radix 0 word ≡ Some value → value < 2 ^ 32 → Ok value ≡ numeral_of radix word
numeral_of-value radix value word low some given small =
    let known = capped_numeral-is radix 0 word (omega arith) in
    elim (cases_Bool (list_all (λ byte. is_digit byte radix) word)) [
      | inl all ↦
          let is = rw all at known in
          let same : min (digits_value radix word) (2 ^ 32) ≡ value = cc in
          elim (cases_lt (digits_value radix word) (2 ^ 32)) [
            | inl below ↦
                let fits : nat_lt (digits_value radix word) (2 ^ 32) ≡ true =
                lt-ltb (digits_value radix word) (2 ^ 32) below in
                let exact : min (digits_value radix word) (2 ^ 32) ≡ digits_value radix word =
                min-eq_left (omega arith) in
                ap Ok (sym same ∙ exact) ∙ sym (simp (some, all, fits) refl)
            | inr above ↦
                let cap : min (digits_value radix word) (2 ^ 32) ≡ 2 ^ 32 = min-eq_right above in
                absurd (omega (arith, sym same ∙ cap, small))
          ]
      | inr other ↦ let is = rw other at known in cc
    ]

pub numeral_of-too_large : (radix value : ℕ) (word : List ℕ) → 2 ≤ radix → (length word == 0) ≡ false
    → capped_numeral radix 0 word ≡ Some value → 2 ^ 32 ≤ value → Err TooLarge ≡ numeral_of radix word
numeral_of-too_large radix value word low some given large =
    let known = capped_numeral-is radix 0 word (omega arith) in
    elim (cases_Bool (list_all (λ byte. is_digit byte radix) word)) [
      | inl all ↦
          let is = rw all at known in
          let same : min (digits_value radix word) (2 ^ 32) ≡ value = cc in
          elim (cases_lt (digits_value radix word) (2 ^ 32)) [
            | inl below ↦
                let exact : min (digits_value radix word) (2 ^ 32) ≡ digits_value radix word =
                min-eq_left (omega arith) in
                absurd (omega (arith, sym same ∙ exact, large))
            | inr above ↦
                let over : nat_lt (digits_value radix word) (2 ^ 32) ≡ false =
                le-ltb (digits_value radix word) (2 ^ 32) above in
                sym (simp (some, all, over) refl)
          ]
      | inr other ↦ let is = rw other at known in cc
    ]
