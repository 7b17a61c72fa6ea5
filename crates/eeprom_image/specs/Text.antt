-- The image that EEPROM source describes.
use Rattle.std.specs.Prelude.{◌≡◌, ℕ, ◌<◌, Bool, ◌||◌, nat_le, IsTrue, IsFalse, List, [], length, filter, Option, Some, None, Result, Ok, Err}
use Rattle.std.specs.List.{list_all}
use Rattle.eeprom_image.specs.Bytes.{word_at}
use Rattle.eeprom_image.specs.Section.{is_unused, pointers}
use Rattle.eeprom_image.specs.Triples.{triples_of}
use Rattle.eeprom_image.specs.Image.{IsImage}
use Rattle.eeprom_image.specs.Content.{Content, content_of, ◌then◌}
use Rattle.eeprom_image.specs.Fault.{indexes, given_again, is_reserved, section_end, given_word, csr_pointer, fits, content_fault}
use Rattle.eeprom_image.specs.declared.text.AsmFault.{AsmFault}
use Rattle.eeprom_image.specs.declared.text.AsmFault.TheVariants.{Syntax, TwoValues, Reserved, DoesNotFit, PointerOutside, OutOfMemory}

-- Whether the pointer is unused or points to 0x40 or above.
abbrev pub is_past : ℕ → Bool
is_past pointer = is_unused pointer || nat_le 0x40 pointer

-- The words are an image that contains what EEPROM source defines, and 0xFFFF in each word that is neither defined nor
-- reserved.
pub record IsImageOf (content : Content) (words : List ℕ) : Type 0 where
  -- Each defined index is defined only once and isn't reserved, and everything that is defined is inside the image.
  pub once : given_again (indexes content.words) ≡ []
  pub free : filter (is_reserved (section_end content.triples)) (indexes content.words) ≡ []
  pub inside : IsTrue (fits content)
  -- The words are an image, and its pointers point after the checksum.
  pub image : IsImage words
  pub pointers : IsTrue (list_all is_past (pointers words))
  pub size : length words ≡ content.size
  -- The image has the defined words, and 0xFFFF in each other word that isn't reserved.
  pub given : (index : ℕ) → index < content.size → IsFalse (is_reserved (section_end content.triples) index)
      → word_at words index ≡ given_word content.words index
  -- The image has the defined triples, in a section at 0x40 if there are any.
  pub pointer : word_at words 0x0D ≡ csr_pointer content.triples
  pub triples : triples_of words ≡ content.triples

-- The content, or its first fault.
abbrev pub checked_by : Content → Option AsmFault → Result Content AsmFault
checked_by content None = Ok content
checked_by content (Some fault) = Err fault

-- What EEPROM source defines, if it has no fault. Otherwise its first faulty line, or, if no line is faulty, its first
-- other fault.
unfoldable pub sound_content : List ℕ → Result Content AsmFault
sound_content text = content_of text then λ content. checked_by content (content_fault content)

-- The fault is the one that the definition `meant` returns, or `OutOfMemory`.
abbrev pub Fails : {Y : Type 0} → AsmFault → Result Y AsmFault → Type 0
Fails OutOfMemory meant = Unit {0}
Fails (Syntax line) meant = meant ≡ Err (Syntax line)
Fails (TwoValues index) meant = meant ≡ Err (TwoValues index)
Fails (Reserved index) meant = meant ≡ Err (Reserved index)
Fails DoesNotFit meant = meant ≡ Err DoesNotFit
Fails PointerOutside meant = meant ≡ Err PointerOutside

-- The result of a call, mapped with `view`, is what the definition `meant` returns, or the call's error is
-- `OutOfMemory`.
abbrev pub Gives : {X Y : Type 0} → (X → Y) → Result X AsmFault → Result Y AsmFault → Type 0
Gives view (Ok x) meant = meant ≡ Ok (view x)
Gives view (Err fault) meant = Fails fault meant
