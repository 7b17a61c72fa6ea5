-- The register writes in the CSR section.
use Rattle.std.specs.Prelude.{ℕ, ◌+◌, ◌*◌, ◌%◌, Bool, ◌||◌, ◌==◌, List, [], ◌∷◌}
use Rattle.eeprom_image.specs.Bytes.{word_at}
use Rattle.eeprom_image.specs.Section.{is_unused, word_count, section_at}

-- The register writes in these words. Every three words are a register's offset in words, and the data, low word first.
-- In the result, offsets are in bytes.
abbrev pub triples_in : List ℕ → List (ℕ × ℕ)
triples_in [] = []
triples_in (offset ∷ []) = []
triples_in (offset ∷ low ∷ []) = []
triples_in (offset ∷ low ∷ high ∷ words) = (4 * offset, low + 65536 * high) ∷ triples_in words

-- The register writes in the section that word 0x0D points to.
abbrev pub triples_of : List ℕ → List (ℕ × ℕ)
triples_of words = triples_in (section_at words (word_at words 13))

-- Whether the CSR section consists of whole triples.
abbrev pub has_whole_triples : List ℕ → Bool
has_whole_triples words =
    is_unused (word_at words 13) || ((word_count (word_at words (word_at words 13)) % 3) == 0)
