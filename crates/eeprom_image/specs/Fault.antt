-- The faults in what EEPROM source defines.
use Rattle.std.specs.Prelude.{ℕ, ◌+◌, ◌-◌, ◌*◌, ◌/◌, ◌%◌, Bool, not, ◌||◌, ◌&&◌, ◌==◌, nat_lt, nat_le, if◌then◌else◌, List, [], ◌∷◌, length, map, filter, fold, min, get_or, Option, Some, None}
use Rattle.std.specs.List.{list_all, list_any, flat_map}
use Rattle.eeprom_image.specs.Section.{is_unused, word_count}
use Rattle.eeprom_image.specs.Content.{Content}
use Rattle.eeprom_image.specs.declared.text.AsmFault.{AsmFault}
use Rattle.eeprom_image.specs.declared.text.AsmFault.TheVariants.{TwoValues, Reserved, DoesNotFit, PointerOutside}

-- The indices of the defined words.
abbrev pub indexes : List (ℕ × ℕ) → List ℕ
indexes words = map (λ given. given.0) words

-- The indices that are defined again later.
abbrev pub given_again : List ℕ → List ℕ
given_again [] = []
given_again (index ∷ more) =
    if list_any (λ other. other == index) more then index ∷ given_again more else given_again more

-- The smaller of two numbers, if there is a second number; otherwise the first.
abbrev pub lesser : ℕ → Option ℕ → Option ℕ
lesser n None = Some n
lesser n (Some m) = Some (min n m)

-- The smallest of the numbers, or `None` if there are none.
abbrev pub least : List ℕ → Option ℕ
least [] = None
least (n ∷ ns) = lesser n (least ns)

-- The index after the CSR section, which begins at 0x40 if there are triples.
abbrev pub section_end : List (ℕ × ℕ) → ℕ
section_end [] = 0x40
section_end (triple ∷ triples) = 0x41 + 3 * length (triple ∷ triples)

-- Whether EEPROM source must not define this word: 0x0D, 0x3F, or a word in the CSR section.
abbrev pub is_reserved : ℕ → ℕ → Bool
is_reserved end index = (index == 0x0D) || (index == 0x3F) || (nat_le 0x40 index && nat_lt index end)

-- Whether each defined word and the CSR section are inside the image.
abbrev pub fits : Content → Bool
fits content = list_all (λ given. nat_lt given.0 content.size) content.words
    && nat_le (section_end content.triples) content.size

-- The three words of a triple.
abbrev pub triple_words : ℕ × ℕ → List ℕ
triple_words triple = triple.0 / 4 % 65536 ∷ triple.1 % 65536 ∷ triple.1 / 65536 ∷ []

-- The CSR section: the number of words that follow, then the words of each triple.
abbrev pub csr_section : List (ℕ × ℕ) → List ℕ
csr_section triples = 3 * length triples ∷ flat_map triple_words triples

-- The value that is defined for a word, or 0xFFFF if none is defined.
abbrev pub given_word : List (ℕ × ℕ) → ℕ → ℕ
given_word words index = fold (λ value given. if given.0 == index then given.1 else value) 0xFFFF words

-- The pointer to the CSR section, or 0xFFFF if there are no triples.
abbrev pub csr_pointer : List (ℕ × ℕ) → ℕ
csr_pointer [] = 0xFFFF
csr_pointer (triple ∷ triples) = 0x40

-- The word at an index, except for the checksum.
abbrev pub plain_word : Content → ℕ → ℕ
plain_word content index =
    if index == 0x0D then csr_pointer content.triples else
    if nat_le 0x40 index && nat_lt index (section_end content.triples)
    then get_or (csr_section content.triples) (index - 0x40) 0xFFFF else
    given_word content.words index

-- Whether the pointer is unused, or points to a section that starts at 0x40 or above and is inside the image.
abbrev pub is_right_pointer : Content → ℕ → Bool
is_right_pointer content pointer =
    is_unused pointer || (nat_le 0x40 pointer
    && nat_lt (pointer + word_count (plain_word content pointer)) content.size)

-- Whether each pointer is valid.
unfoldable pub points_inside : Content → Bool
points_inside content =
    list_all (is_right_pointer content)
    (map (plain_word content) (3 ∷ 4 ∷ 5 ∷ 6 ∷ 7 ∷ 8 ∷ 9 ∷ 10 ∷ 11 ∷ 12 ∷ 13 ∷ 14 ∷ []))

-- The fault for the lowest index that is defined twice, if there is one; otherwise the fault for the lowest reserved
-- index that is defined, if there is one.
abbrev pub index_fault : Option ℕ → Option ℕ → Option AsmFault
index_fault (Some twice) reserved = Some (TwoValues twice)
index_fault None (Some reserved) = Some (Reserved reserved)
index_fault None None = None

-- The first fault if there is one, otherwise the next fault.
abbrev pub or_else : Option AsmFault → Option AsmFault → Option AsmFault
or_else (Some fault) next = Some fault
or_else None next = next

abbrev pub twice_given : Content → Option ℕ
twice_given content = least (given_again (indexes content.words))

abbrev pub reserved_given : Content → Option ℕ
reserved_given content = least (filter (is_reserved (section_end content.triples)) (indexes content.words))

-- The first fault, in the order of the list of faults.
unfoldable pub content_fault : Content → Option AsmFault
content_fault content =
    or_else (index_fault (twice_given content) (reserved_given content))
    (if not (fits content) then Some DoesNotFit else
    if not (points_inside content) then Some PointerOutside else None)
