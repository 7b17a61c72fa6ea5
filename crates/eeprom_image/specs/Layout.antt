-- The words that EEPROM source defines, and their checksum.
use Rattle.std.specs.Prelude.{◌≡◌, ◌≢◌, ℕ, ◌+◌, ◌-◌, ◌%◌, ◌<◌, List, [], ◌∷◌, ◌++◌, length, take, drop, slice_set}
use Rattle.eeprom_image.specs.Bytes.{word_at}
use Rattle.eeprom_image.specs.Checksum.{checked_sum}
use Rattle.eeprom_image.specs.Content.{Content}
use Rattle.eeprom_image.specs.Fault.{plain_word, csr_section}

-- The words after one more word is defined.
abbrev pub put_word : List ℕ → ℕ × ℕ → List ℕ
put_word words given = slice_set words given.0 given.1

-- The words after a section is written starting at 0x40.
abbrev pub with_section : List ℕ → List ℕ → List ℕ
with_section words section = take 64 words ++ (section ++ drop (64 + length section) words)

-- The words after the CSR section and the pointer to it are written. If there are no triples, only the pointer is
-- written, as 0xFFFF.
abbrev pub with_csr : List ℕ → List (ℕ × ℕ) → List ℕ
with_csr words [] = slice_set words 0x0D 0xFFFF
with_csr words (triple ∷ triples) = with_section (slice_set words 0x0D 0x40) (csr_section (triple ∷ triples))

-- The words that EEPROM source defines, with 0 as the checksum.
pub record IsLaidOut (content : Content) (words : List ℕ) : Type 0 where
  pub size : length words ≡ content.size
  pub plain : (index : ℕ) → index < content.size → index ≢ 63 → word_at words index ≡ plain_word content index
  pub zero : word_at words 63 ≡ 0

-- The checksum of words whose checksum word is 0.
abbrev pub checksum_of : List ℕ → ℕ
checksum_of words = (0x1BABA - checked_sum words % 65536) % 65536

-- The words with their checksum.
abbrev pub with_checksum : List ℕ → List ℕ
with_checksum words = slice_set words 63 (checksum_of words)
