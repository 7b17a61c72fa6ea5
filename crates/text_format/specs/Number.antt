-- The number that a word spells.
use Rattle.std.specs.Prelude.{ℕ, ◌+◌, ◌*◌, ◌^◌, Bool, not, ◌&&◌, ◌==◌, List, [], ◌∷◌, length, drop, min, Option, Some, None, Result, Ok, Err, nat_eq, nat_lt, codes, if◌then◌else◌}
use Rattle.std.specs.List.{list_all, prefix_len, starts_with}
use Rattle.std.specs.Char.{is_digit, digit_value}
use Rattle.std.specs.Str.Parse.{digits_value}
use Rattle.text_format.specs.declared.numbers.NumberFault.{NumberFault}
use Rattle.text_format.specs.declared.numbers.NumberFault.TheVariants.{Malformed, TooLarge}

-- Whether the word consists of one or more digits in this radix.
abbrev pub is_numeral : ℕ → List ℕ → Bool
is_numeral radix word = not (length word == 0) && list_all (λ byte. is_digit byte radix) word

-- The number that the digits represent; `Malformed` if the word isn't digits in this radix, and `TooLarge` if the
-- number is 2^32 or more.
abbrev pub numeral_of : ℕ → List ℕ → Result ℕ NumberFault
numeral_of radix word =
    if is_numeral radix word then
    if nat_lt (digits_value radix word) (2 ^ 32) then Ok (digits_value radix word) else Err TooLarge
    else Err Malformed

-- The number that these digits represent if digits with the given value precede them, capped at 2^32. `None` if a byte
-- isn't a digit in this radix.
abbrev pub capped_numeral : ℕ → ℕ → List ℕ → Option ℕ
capped_numeral radix value [] = Some value
capped_numeral radix value (byte ∷ more) =
    if is_digit byte radix then capped_numeral radix (min (value * radix + digit_value byte) (2 ^ 32)) more else None

-- The number of leading digits in this radix.
abbrev pub digits_in_front : ℕ → List ℕ → ℕ
digits_in_front radix text = prefix_len (λ byte. is_digit byte radix) text

-- The number that a word spells: in hex after `0x`, otherwise in decimal.
unfoldable pub number_of : List ℕ → Result ℕ NumberFault
number_of word = if starts_with nat_eq word (codes "0x") then numeral_of 16 (drop 2 word) else numeral_of 10 word
