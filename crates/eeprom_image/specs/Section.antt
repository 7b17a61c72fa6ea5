-- Pointers and the sections that they point to.
use Rattle.std.specs.Prelude.{ℕ, ◌+◌, Bool, ◌||◌, ◌==◌, nat_lt, if◌then◌else◌, List, [], ◌∷◌, length, take, drop, map}
use Rattle.eeprom_image.specs.Bytes.{word_at}

-- Whether the word is 0 or 0xFFFF: a pointer with this value is unused, and a section whose first word has this value
-- is empty.
abbrev pub is_unused : ℕ → Bool
is_unused word = (word == 0) || (word == 0xFFFF)

-- The number of words after the first word in a section that has this first word.
abbrev pub word_count : ℕ → ℕ
word_count word = if is_unused word then 0 else word

-- The words of the section after its first word, as many as the first word says.
abbrev pub section_at : List ℕ → ℕ → List ℕ
section_at words pointer =
    if is_unused pointer then [] else take (word_count (word_at words pointer)) (drop (pointer + 1) words)

-- Whether the pointer is unused, or the last word of its section is in the image. If the section is empty, its first
-- word is its last.
abbrev pub is_inside : List ℕ → ℕ → Bool
is_inside words pointer =
    is_unused pointer || nat_lt (pointer + word_count (word_at words pointer)) (length words)

-- Words 0x03 to 0x0E.
unfoldable pub pointers : List ℕ → List ℕ
pointers words = map (word_at words) (3 ∷ 4 ∷ 5 ∷ 6 ∷ 7 ∷ 8 ∷ 9 ∷ 10 ∷ 11 ∷ 12 ∷ 13 ∷ 14 ∷ [])
