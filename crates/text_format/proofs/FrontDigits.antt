-- Lemmas about the leading digits of a text.
use Rattle.std.proofs.Common.{ap, sym, ◌∙◌, arith, ◌≡◌, ◌<◌, ◌≤◌, ℕ, ◌+◌, ◌*◌, ◌^◌, true, cond, min, List, [], ◌∷◌, length, take, drop, None, inl, inr}
use Rattle.std.specs.Char.{is_digit, digit_value}
use Rattle.std.proofs.lemmas.Bool.{cases_Bool, lt-ltb}
use Rattle.text_format.specs.Number.{capped_numeral, digits_in_front}
use Rattle.text_format.proofs.FirstWord.{take_next, drop_next}

front-yes : (radix byte : ℕ) (more : List ℕ) → is_digit byte radix ≡ true
    → digits_in_front radix (byte ∷ more) ≡ 1 + digits_in_front radix more
front-yes radix byte more digit = ap (λ b. cond b (1 + digits_in_front radix more) 0) digit

take-digit : (radix byte : ℕ) (more : List ℕ) → is_digit byte radix ≡ true
    → take (digits_in_front radix (byte ∷ more)) (byte ∷ more) ≡ byte ∷ take (digits_in_front radix more) more
take-digit radix byte more digit =
    ap (λ n. take n (byte ∷ more)) (front-yes radix byte more digit) ∙ take_next (digits_in_front radix more) byte more

drop-digit : (radix byte : ℕ) (more : List ℕ) → is_digit byte radix ≡ true
    → drop (digits_in_front radix (byte ∷ more)) (byte ∷ more) ≡ drop (digits_in_front radix more) more
drop-digit radix byte more digit =
    ap (λ n. drop n (byte ∷ more)) (front-yes radix byte more digit) ∙ drop_next (digits_in_front radix more) byte more

-- After the next digit is added to the value, the remaining digits continue that value to the same number.
pub front-next : (radix value next digit byte : ℕ) (rest more : List ℕ) → rest ≡ byte ∷ more → digit ≡ digit_value byte
    → digit < radix → next ≡ min (value * radix + digit) (2 ^ 32)
    → capped_numeral radix next (take (digits_in_front radix more) more)
    ≡ capped_numeral radix value (take (digits_in_front radix rest) rest)
front-next radix value next digit byte rest more is said small grown =
    let yes : is_digit byte radix ≡ true = rw (← said) (lt-ltb digit radix small) in
    let front = take (digits_in_front radix more) more in
    sym (ap (λ r. capped_numeral radix value (take (digits_in_front radix r) r)) is
    ∙ ap (capped_numeral radix value) (take-digit radix byte more yes)
    ∙ ap (λ b. cond b (capped_numeral radix (min (value * radix + digit_value byte) (2 ^ 32)) front) None) yes
    ∙ ap (λ n. capped_numeral radix (min (value * radix + n) (2 ^ 32)) front) (sym said)
    ∙ ap (λ n. capped_numeral radix n front) (sym grown))

pub past-next : (radix digit byte : ℕ) (rest more : List ℕ) → rest ≡ byte ∷ more → digit ≡ digit_value byte
    → digit < radix → drop (digits_in_front radix more) more ≡ drop (digits_in_front radix rest) rest
past-next radix digit byte rest more is said small =
    let yes : is_digit byte radix ≡ true = rw (← said) (lt-ltb digit radix small) in
    sym (ap (λ r. drop (digits_in_front radix r) r) is ∙ drop-digit radix byte more yes)

-- Digits followed by another character aren't a number.
pub capped_numeral-stopped : (radix value : ℕ) (text : List ℕ)
    → 1 ≤ length (drop (digits_in_front radix text) text) → capped_numeral radix value text ≡ None
capped_numeral-stopped radix value [] some = absurd (omega arith)
capped_numeral-stopped radix value (byte ∷ more) some = elim (cases_Bool (is_digit byte radix)) [
  | inl digit ↦
      let left : 1 ≤ length (drop (digits_in_front radix more) more) =
      omega (arith, ap length (drop-digit radix byte more digit)) in
      let grown = min (value * radix + digit_value byte) (2 ^ 32) in
      ap (λ b. cond b (capped_numeral radix grown more) None) digit ∙ capped_numeral-stopped radix grown more left
  | inr other ↦
      ap (λ b. cond b (capped_numeral radix (min (value * radix + digit_value byte) (2 ^ 32)) more) None) other
]
