-- The checksum of an image.
use Rattle.std.specs.Prelude.{ℕ, ◌+◌, ◌%◌, ◌==◌, Bool, List, take, sum, sum_by}
use Rattle.eeprom_image.specs.Section.{section_at, pointers}

-- The sum of words 0x00 to 0x3F, plus, for each pointer, the sum of the words in the section that this pointer points
-- to.
abbrev pub checked_sum : List ℕ → ℕ
checked_sum words = sum (take 64 words) + sum_by (λ pointer. sum (section_at words pointer)) (pointers words)

-- Whether the sum is 0xBABA, modulo 2^16. Word 0x3F is chosen accordingly.
abbrev pub is_checked : List ℕ → Bool
is_checked words = (checked_sum words % 65536) == 0xBABA
