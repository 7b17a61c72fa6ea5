-- What a line of EEPROM source states.
use Rattle.std.specs.Prelude.{ℕ, ◌%◌, ◌&&◌, ◌==◌, nat_lt, if◌then◌else◌, List, [], ◌∷◌, Option, Some, None, codes}
use Rattle.std.specs.Option.{option_map}
use Rattle.std.specs.Result.{result_ok}
use Rattle.std.specs.Str.{bytes_eq}
use Rattle.text_format.specs.Words.{words_of}
use Rattle.text_format.specs.Number.{number_of}
use Rattle.eeprom_image.specs.Image.{is_size}
use Rattle.eeprom_image.specs.declared.line.TextLine.{TextLine}
use Rattle.eeprom_image.specs.declared.line.TextLine.TheVariants.{Empty, Size, Word, Csr, Malformed}

-- The number that a word spells.
abbrev pub number_in : List ℕ → Option ℕ
number_in word = result_ok (number_of word)

-- The number, if the words are exactly one number.
abbrev pub one_number : List (List ℕ) → Option ℕ
one_number [] = None
one_number (word ∷ []) = number_in word
one_number (word ∷ next ∷ more) = None

-- The two numbers, if the words are exactly two numbers.
abbrev pub two_numbers : List (List ℕ) → Option (ℕ × ℕ)
two_numbers [] = None
two_numbers (word ∷ more) = elim (number_in word)
    [ None ↦ None | Some first ↦ option_map (λ second. (first, second)) (one_number more) ]

-- What a `size` line with this operand states: a number of words that an image may have.
abbrev pub size_line : Option ℕ → TextLine
size_line None = Malformed
size_line (Some count) = if is_size count then Size count else Malformed

-- What a `word` line with these operands states: an index and a 16-bit value.
abbrev pub word_line : Option (ℕ × ℕ) → TextLine
word_line None = Malformed
word_line (Some given) = if nat_lt given.1 65536 then Word given.0 given.1 else Malformed

-- What a `csr` line with these operands states: a register's byte offset, which is a multiple of 4 below 0x40000, and
-- the data.
abbrev pub csr_line : Option (ℕ × ℕ) → TextLine
csr_line None = Malformed
csr_line (Some given) =
    if ((given.0 % 4) == 0) && nat_lt given.0 0x40000 then Csr given.0 given.1 else Malformed

-- What a line with these words states.
abbrev pub line_in : List (List ℕ) → TextLine
line_in [] = Empty
line_in (name ∷ operands) =
    if bytes_eq name (codes "size") then size_line (one_number operands) else
    if bytes_eq name (codes "word") then word_line (two_numbers operands) else
    if bytes_eq name (codes "csr") then csr_line (two_numbers operands) else Malformed

-- What a line states.
unfoldable pub text_line : List ℕ → TextLine
text_line line = line_in (words_of line)
