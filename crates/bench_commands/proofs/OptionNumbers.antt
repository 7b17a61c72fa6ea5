-- Lemmas about the result of `get_one` for an option that takes a number.
use Rattle.std.proofs.Common.{ap, refl, sym, ℕ, ◌≡◌, ◌<◌, ◌^◌, Bool, true, false, List, [], ◌∷◌, Option, Some, None, Result, length, unwrap_or, nat_lt}
use Rattle.std.specs.List.{list_all}
use Rattle.std.specs.Option.{option_map_or}
use Rattle.std.specs.Char.{digit_value}
use Rattle.std.specs.Str.Parse.{AllDigits, ExplainsUnsignedError, HasUnsignedDigitsIfOk, IsNumeral, ParsesUnsigned, digits_value, without_leading_plus}
use Rattle.std.specs.declared.num.ParseIntError.{ParseIntError}
use Rattle.std.proofs.lemmas.Bool.{lt-ltb, ltb-true}
use Rattle.clap.specs.Words.{ReadsOne, Text, one_text, rows_of}
use Rattle.clap.specs.declared.parser.matches.Found.{Found}
use Rattle.clap.proofs.WalkLemmas.{both, one_text-rows}
use Rattle.bench_commands.specs.Asked.{is_number_of, number_in, option_in}

list_all-digits : (digits : List ℕ) → AllDigits 10 digits → list_all (λ d. nat_lt (digit_value d) 10) digits ≡ true
list_all-digits [] all = refl
list_all-digits (d ∷ digits) all = rw (lt-ltb (digit_value d) 10 all.0, list_all-digits digits all.1) refl

digits-list_all : (digits : List ℕ) → list_all (λ d. nat_lt (digit_value d) 10) digits ≡ true → AllDigits 10 digits
digits-list_all [] all = tt
digits-list_all (d ∷ digits) all =
    let parts = both _ _ all in
    (ltb-true _ _ parts.0, digits-list_all digits parts.1)

is_number_of-true : (bits : ℕ) (digits : List ℕ) → IsNumeral 10 digits → digits_value 10 digits < 2 ^ bits
    → is_number_of bits digits ≡ true
is_number_of-true bits digits numeral fits =
    rw (
      lt-ltb 0 (length digits) numeral.0,
      list_all-digits digits numeral.1,
      lt-ltb (digits_value 10 digits) (2 ^ bits) fits,
    ) refl

number-of-is_number_of : (bits : ℕ) (digits : List ℕ) → is_number_of bits digits ≡ true
    → IsNumeral 10 digits × (digits_value 10 digits < 2 ^ bits)
number-of-is_number_of bits digits is =
    let outer = both _ _ is in
    let inner = both _ _ outer.1 in
    ((ltb-true _ _ outer.0, digits-list_all digits inner.0), ltb-true _ _ inner.1)

-- How `parse` reads a number of this many bits.
abbrev Reads : ℕ → Text → Result ℕ ParseIntError → Type 0
Reads bits text r = ParsesUnsigned bits 10 text r × ExplainsUnsignedError 10 text r × HasUnsignedDigitsIfOk text r

number_read : (bits : ℕ) (text : Text) (r : Option ℕ) → ReadsOne (Reads bits) text r
    → unwrap_or r 0 ≡ number_in bits text
number_read bits text (Some n) reads =
    rw (is_number_of-true bits (without_leading_plus text) reads.0.0.0 reads.0.0.1) reads.0.1
number_read bits text None reads = go (is_number_of bits (without_leading_plus text)) refl
  where
    go : (b : Bool) → is_number_of bits (without_leading_plus text) ≡ b → 0 ≡ number_in bits text
    go false is = rw is refl
    go true is = absurd (reads.1.0 (number-of-is_number_of bits (without_leading_plus text) is))

-- The typed getter's result for a numeric option.
pub option_read : (bits : ℕ) (name : Text) (f : Found) (r : Option ℕ) → (one_text f name ≡ None → r ≡ None)
    → ((t : Text) → one_text f name ≡ Some t → ReadsOne (Reads bits) t r)
    → unwrap_or r 0 ≡ option_in bits name (rows_of f)
option_read bits name f r none value = rw (sym (one_text-rows f name)) (go (one_text f name) refl)
  where
    go : (o : Option Text) → one_text f name ≡ o → unwrap_or r 0 ≡ option_map_or (number_in bits) o 0
    go None is = ap (λ x. unwrap_or x 0) (none is)
    go (Some text) is = number_read bits text r (value text is)
