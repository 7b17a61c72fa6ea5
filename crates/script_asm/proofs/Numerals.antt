-- Proves that printed numbers read back.
use Rattle.std.proofs.Common.{◌≡◌, refl, ◌∙◌, ap, ℕ, ◌-◌, ◌^◌, ◌<◌, ◌≤◌, zero, suc, Bool, true, false, not, ◌&&◌, ◌==◌, List, [], ◌∷◌, ◌++◌, length, length-append, Ok, arith}
use Rattle.std.specs.Prelude.{replicate, decimal, codes, nat_eq}
use Rattle.std.specs.Char.{digit_value, is_digit}
use Rattle.std.specs.Fmt.{digits}
use Rattle.std.specs.List.{list_all, starts_with}
use Rattle.std.specs.Str.Parse.{AllDigits, IsNumeral, digits_value}
use Rattle.std.proofs.lemmas.Fmt.{digits_is_IsNumeral, decimal_is_IsNumeral, length-decimal-le}
use Rattle.text_format.specs.Name.{is_name, begins_name, continues_name}
use Rattle.text_format.specs.Number.{numeral_of, number_of}
use Rattle.script_asm.specs.Prelude.{word_text}
use Rattle.script_asm.proofs.Prelude.{le-leb, lt-ltb, nat_tests}
use Rattle.script_asm.specs.Target.{name_in}
use Rattle.script_asm.proofs.Plain.{IsWord, is_plain, list_all-weaker, both_all}

digits-all : (radix : ℕ) (ds : List ℕ) → AllDigits radix ds → list_all (λ b. is_digit b radix) ds ≡ true
digits-all radix [] all = refl
digits-all radix (c ∷ cs) all = rw (lt-ltb (digit_value c) radix all.0, digits-all radix cs all.1) refl

-- Whether a byte of a word isn't a bracket.
abbrev pub is_tame : ℕ → Bool
is_tame byte = is_plain byte && not (byte == 91)

digit-tame : (b : ℕ) → is_digit b 16 ≡ true → is_tame b ≡ true
digit-tame b e = grind (arith, nat_tests)

-- Digits are plain bytes.
digit-plain : (b : ℕ) → is_digit b 16 ≡ true → is_plain b ≡ true
digit-plain b e = grind (arith, nat_tests)

decimal_digit-plain : (b : ℕ) → is_digit b 10 ≡ true → is_plain b ≡ true
decimal_digit-plain b e = grind (arith, nat_tests)

decimal_digit-name : (b : ℕ) → is_digit b 10 ≡ true → continues_name b ≡ true
decimal_digit-name b e = grind (arith, nat_tests)

-- If all bytes are digits, they still are after padding with zeros.
zeros-all : (k : ℕ) (ds : List ℕ) → list_all (λ b. is_digit b 16) ds ≡ true
    → list_all (λ b. is_digit b 16) (replicate k 48 ++ ds) ≡ true
zeros-all zero ds all = all
zeros-all (suc k) ds all = zeros-all k ds all

zeros-value : (k : ℕ) (ds : List ℕ) → digits_value 16 (replicate k 48 ++ ds) ≡ digits_value 16 ds
zeros-value zero ds = refl
zeros-value (suc k) ds = zeros-value k ds

long_enough : (xs ys : List ℕ) → 0 < length ys → (length (xs ++ ys) == 0) ≡ false
long_enough xs ys long = let h = length-append xs ys in grind (arith, nat_tests)

numeral-Ok : (radix n : ℕ) (ds : List ℕ) → (length ds == 0) ≡ false → list_all (λ b. is_digit b radix) ds ≡ true
    → digits_value radix ds ≡ n → n < 2 ^ 32
    → numeral_of radix ds ≡ Ok n
numeral-Ok radix n ds long all is small = rw (long, all, is, lt-ltb n (2 ^ 32) small) refl

-- No decimal digit is an `x`, so a decimal number has no `0x` prefix.
not_x : (c : ℕ) → digit_value c < 10 → (120 == c) ≡ false
not_x c small = grind (arith, nat_tests)

anded : (a b : Bool) → b ≡ false → (a && b) ≡ false
anded true b e = e
anded false b e = refl

not_hex : (ds : List ℕ) → AllDigits 10 ds → starts_with nat_eq ds (codes "0x") ≡ false
not_hex [] all = refl
not_hex (c ∷ []) all = anded (nat_eq 48 c) false refl
not_hex (c ∷ d ∷ more) all = anded (nat_eq 48 c) (nat_eq 120 d && true) (ap (λ b. b && true) (not_x d all.1.0))

below_64 : (n : ℕ) → n < 2 ^ 32 → n < 16 ^ 64
below_64 n small = omega arith

-- The text of a 32-bit word reads back as that word.
pub number_of-word : (n : ℕ) → n < 2 ^ 32 → number_of (word_text n) ≡ Ok n
unfolding number_of
number_of-word n small =
    let ds = digits 16 false n in
    let is = digits_is_IsNumeral 16 false (omega arith) (omega arith) n (below_64 n small) in
    let zeros = replicate (8 - length ds) 48 in
    numeral-Ok 16 n (zeros ++ ds) (long_enough zeros ds is.0.0) (zeros-all (8 - length ds) ds (digits-all 16 ds is.0.1))
    (zeros-value (8 - length ds) ds ∙ is.1) small

pub IsWord-word : (n : ℕ) → n < 2 ^ 32 → IsWord (word_text n)
IsWord-word n small =
    let ds = digits 16 false n in
    let is = digits_is_IsNumeral 16 false (omega arith) (omega arith) n (below_64 n small) in
    let all = list_all-weaker (λ b. is_digit b 16) is_plain digit-plain (replicate (8 - length ds) 48 ++ ds)
    (zeros-all (8 - length ds) ds (digits-all 16 ds is.0.1)) in
    record { long = long_enough (48 ∷ 120 ∷ replicate (8 - length ds) 48) ds is.0.0; plain = all }

pub tame-word : (n : ℕ) → n < 2 ^ 32 → list_all is_tame (word_text n) ≡ true
tame-word n small =
    let ds = digits 16 false n in
    let is = digits_is_IsNumeral 16 false (omega arith) (omega arith) n (below_64 n small) in
    list_all-weaker (λ b. is_digit b 16) is_tame digit-tame (replicate (8 - length ds) 48 ++ ds)
    (zeros-all (8 - length ds) ds (digits-all 16 ds is.0.1))

-- Decimal digits read back.
decimal_digits : (n : ℕ) → n < 2 ^ 32 → IsNumeral 10 (decimal n) × (digits_value 10 (decimal n) ≡ n)
decimal_digits n small = decimal_is_IsNumeral n (omega arith)

pub plain-decimal : (n : ℕ) → n < 2 ^ 32 → list_all is_plain (decimal n) ≡ true
plain-decimal n small = list_all-weaker (λ b. is_digit b 10) is_plain decimal_digit-plain (decimal n)
    (digits-all 10 (decimal n) (decimal_digits n small).0.1)

pub number_of-decimal : (n : ℕ) → n < 2 ^ 32 → number_of (decimal n) ≡ Ok n
unfolding number_of
number_of-decimal n small =
    let is = decimal_digits n small in
    rw (not_hex (decimal n) is.0.1)
    (numeral-Ok 10 n (decimal n) (long_enough [] (decimal n) is.0.0) (digits-all 10 (decimal n) is.0.1) is.1 small)

-- A letter followed by a number is a name.
pub name_in-numbered : (letter n : ℕ) → begins_name letter ≡ true → n < 65536
    → name_in (letter ∷ decimal n) ≡ Ok (letter ∷ decimal n)
unfolding is_name
name_in-numbered letter n begins small =
    let is = decimal_digits n (omega arith) in
    let all = list_all-weaker (λ b. is_digit b 10) continues_name decimal_digit-name (decimal n)
    (digits-all 10 (decimal n) is.0.1) in
    let few : length (letter ∷ decimal n) ≤ 32 =
    (let h = length-decimal-le 5 n (omega arith) (omega arith) (omega arith) in omega (arith, h)) in
    rw (begins, all, le-leb (length (letter ∷ decimal n)) 32 few) refl

pub IsWord-numbered : (letter n : ℕ) → is_plain letter ≡ true → n < 65536 → IsWord (letter ∷ decimal n)
IsWord-numbered letter n plain small =
    let is = decimal_digits n (omega arith) in
    record {
      long = long_enough (letter ∷ []) (decimal n) is.0.0;
      plain = both_all is_plain (letter ∷ []) (decimal n) (rw plain refl)
          (list_all-weaker (λ b. is_digit b 10) is_plain decimal_digit-plain (decimal n)
          (digits-all 10 (decimal n) is.0.1));
    }
