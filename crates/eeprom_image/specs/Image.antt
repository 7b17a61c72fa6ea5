-- Which words are an image.
use Rattle.std.specs.Prelude.{ℕ, ◌*◌, ◌^◌, ◌<◌, ◌==◌, nat_le, Bool, IsTrue, List, [], ◌∷◌, ◌++◌, length, filter, replicate}
use Rattle.std.specs.List.{list_any, list_all}
use Rattle.eeprom_image.specs.Bytes.{word_at}
use Rattle.eeprom_image.specs.Section.{is_inside, pointers}
use Rattle.eeprom_image.specs.Checksum.{is_checked}
use Rattle.eeprom_image.specs.Triples.{has_whole_triples}

-- Whether the number of words is 64, or 64 doubled up to eight times.
abbrev pub is_size : ℕ → Bool
is_size count = list_any (λ s. count == 64 * 2 ^ s) (0 ∷ 1 ∷ 2 ∷ 3 ∷ 4 ∷ 5 ∷ 6 ∷ 7 ∷ 8 ∷ [])

-- Whether each pointer is unused or points to a section that is inside the image.
abbrev pub are_inside : List ℕ → Bool
are_inside words = list_all (is_inside words) (pointers words)

-- How many times 64 can be doubled without exceeding the number of words.
abbrev pub doublings : ℕ → ℕ
doublings count = length (filter (λ s. nat_le (64 * 2 ^ s) count) (1 ∷ 2 ∷ 3 ∷ 4 ∷ 5 ∷ 6 ∷ 7 ∷ 8 ∷ []))

-- The blank image, with only the checksum defined.
abbrev pub blank : List ℕ
blank = replicate 63 0xFFFF ++ 0xBAF9 ∷ []

pub record IsImage (words : List ℕ) : Type 0 where
  pub size : IsTrue (is_size (length words))
  pub fits : (index : ℕ) → word_at words index < 2 ^ 16
  pub sections : IsTrue (are_inside words)
  pub checksum : IsTrue (is_checked words)
  pub triples : IsTrue (has_whole_triples words)
