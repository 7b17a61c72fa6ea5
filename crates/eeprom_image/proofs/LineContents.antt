-- A line of EEPROM source defines a valid size, or numbers that fit.
use Rattle.std.proofs.Common.{◌≡◌, ℕ, ◌*◌, ◌%◌, ◌^◌, ◌<◌, Bool, true, false, cond, nat_lt, ◌&&◌, ◌==◌, List, [], ◌∷◌, drop, Option, Some, None, IfSome, Result, Ok, Err, refl, arith, codes}
use Rattle.std.specs.Result.{result_ok}
use Rattle.std.specs.Str.{bytes_eq}
use Rattle.std.specs.Str.Parse.{digits_value}
use Rattle.std.proofs.lemmas.Bool.{and_parts, eqb-true}
use borrow.Author.Tests.{ltb-true}
use Rattle.text_format.specs.Number.{is_numeral, numeral_of, number_of}
use Rattle.text_format.specs.Words.{words_of}
use Rattle.text_format.specs.declared.numbers.NumberFault.{NumberFault}
use Rattle.text_format.specs.declared.numbers.NumberFault.TheVariants.{TooLarge}
use Rattle.eeprom_image.specs.Image.{is_size}
use Rattle.eeprom_image.specs.Line.{number_in, one_number, two_numbers, size_line, word_line, csr_line, line_in, text_line}
use Rattle.eeprom_image.specs.declared.line.TextLine.{TextLine}
use Rattle.eeprom_image.specs.declared.line.TextLine.TheVariants.{Empty, Size, Word, Csr, Malformed}

-- What holds for every line.
abbrev pub IsLine : TextLine → Type 0
IsLine Empty = Unit {0}
IsLine (Size size) = is_size size ≡ true
IsLine (Word index value) = value < 65536
IsLine (Csr offset value) = (offset % 4 ≡ 0) × (offset < 0x40000) × (value < 65536 * 65536)
IsLine Malformed = Unit {0}

value_fits : (value : ℕ) (small : Bool) → nat_lt value (2 ^ 32) ≡ small
    → IfSome (result_ok (cond small (Ok value) (Err TooLarge))) (λ n. n < 65536 * 65536)
value_fits value true is = let below = ltb-true value (2 ^ 32) is in omega arith
value_fits value false is = tt

numeral_fits : (radix : ℕ) (word : List ℕ) (numeral : Bool) → is_numeral radix word ≡ numeral
    → IfSome (result_ok (numeral_of radix word)) (λ n. n < 65536 * 65536)
numeral_fits radix word true is =
    rw is (value_fits (digits_value radix word) (nat_lt (digits_value radix word) (2 ^ 32)) refl)
numeral_fits radix word false is = rw is tt

either_fits : (hex : Bool) (x y : Result ℕ NumberFault) → IfSome (result_ok x) (λ n. n < 65536 * 65536)
    → IfSome (result_ok y) (λ n. n < 65536 * 65536) → IfSome (result_ok (cond hex x y)) (λ n. n < 65536 * 65536)
either_fits true x y h k = h
either_fits false x y h k = k

number_in-fits : (word : List ℕ) → IfSome (number_in word) (λ n. n < 65536 * 65536)
unfolding number_of
number_in-fits word = either_fits _ (numeral_of 16 (drop 2 word)) (numeral_of 10 word)
    (numeral_fits 16 (drop 2 word) _ refl) (numeral_fits 10 word _ refl)

one_number-fits : (words : List (List ℕ)) → IfSome (one_number words) (λ n. n < 65536 * 65536)
one_number-fits [] = tt
one_number-fits (word ∷ []) = number_in-fits word
one_number-fits (word ∷ next ∷ more) = tt

pair_fits : (first second : Option ℕ) → IfSome second (λ n. n < 65536 * 65536)
    → IfSome (elim first [ None ↦ None | Some a ↦ elim second [ None ↦ None | Some b ↦ Some (a, b) ] ])
    (λ (given : ℕ × ℕ). given.1 < 65536 * 65536)
pair_fits None second h = tt
pair_fits (Some a) None h = tt
pair_fits (Some a) (Some b) h = h

two_numbers-fit : (words : List (List ℕ)) → IfSome (two_numbers words) (λ given. given.1 < 65536 * 65536)
two_numbers-fit [] = tt
two_numbers-fit (word ∷ more) = pair_fits (number_in word) (one_number more) (one_number-fits more)

size_case : (size : ℕ) (right : Bool) → is_size size ≡ right → IsLine (cond right (Size size) Malformed)
size_case size true is = is
size_case size false is = tt

IsLine-size_line : (count : Option ℕ) → IsLine (size_line count)
IsLine-size_line None = tt
IsLine-size_line (Some count) = size_case count (is_size count) refl

word_case : (index value : ℕ) (small : Bool) → nat_lt value 65536 ≡ small
    → IsLine (cond small (Word index value) Malformed)
word_case index value true is = ltb-true value 65536 is
word_case index value false is = tt

IsLine-word_line : (given : Option (ℕ × ℕ)) → IsLine (word_line given)
IsLine-word_line None = tt
IsLine-word_line (Some given) = word_case given.0 given.1 (nat_lt given.1 65536) refl

csr_case : (offset value : ℕ) (right : Bool) → (((offset % 4) == 0) && nat_lt offset 0x40000) ≡ right
    → value < 65536 * 65536 → IsLine (cond right (Csr offset value) Malformed)
csr_case offset value true is fits =
    let both = and_parts ((offset % 4) == 0) (nat_lt offset 0x40000) is in
    (eqb-true (offset % 4) 0 both.0, ltb-true offset 0x40000 both.1, fits)
csr_case offset value false is fits = tt

IsLine-csr_line : (given : Option (ℕ × ℕ)) → IfSome given (λ given. given.1 < 65536 * 65536) → IsLine (csr_line given)
IsLine-csr_line None fits = tt
IsLine-csr_line (Some given) fits = csr_case given.0 given.1 (((given.0 % 4) == 0) && nat_lt given.0 0x40000) refl fits

one_of_lines : (which : Bool) (x y : TextLine) → IsLine x → IsLine y → IsLine (cond which x y)
one_of_lines true x y h k = h
one_of_lines false x y h k = k

IsLine-line_in : (words : List (List ℕ)) → IsLine (line_in words)
IsLine-line_in [] = tt
IsLine-line_in (name ∷ operands) =
    let csr = cond (bytes_eq name (codes "csr")) (csr_line (two_numbers operands)) Malformed in
    let word = cond (bytes_eq name (codes "word")) (word_line (two_numbers operands)) csr in
    one_of_lines (bytes_eq name (codes "size")) (size_line (one_number operands)) word
    (IsLine-size_line (one_number operands))
    (one_of_lines (bytes_eq name (codes "word")) (word_line (two_numbers operands)) csr
    (IsLine-word_line (two_numbers operands))
    (one_of_lines (bytes_eq name (codes "csr")) (csr_line (two_numbers operands)) Malformed
    (IsLine-csr_line (two_numbers operands) (two_numbers-fit operands)) tt))

pub IsLine-text_line : (line : List ℕ) → IsLine (text_line line)
unfolding text_line
IsLine-text_line line = IsLine-line_in (words_of line)
