-- EEPROM images, defined by the numbers of their words and bytes.
use Rattle.std.specs.Prelude.{ℕ, ◌≡◌, ◌≢◌, ◌<◌, ◌≤◌, ◌^◌, ◌↔◌, ◌+◌, ◌*◌, ◌/◌, ◌%◌, ◌==◌, ◌||◌, ◌&&◌, not, nat_le, nat_lt, Bool, true, false, IsTrue}
use Rattle.std.specs.Prelude.{if◌then◌else◌, Option, Some, None, List, [], ◌∷◌, length, take, drop, sum, sum_by}
use Rattle.std.specs.Prelude.{get_or, replicate, slice_get, slice_index}
use Rattle.std.specs.List.{list_all}
use Rattle.eeprom_image.specs.Bytes.{word_at, words_of}
use Rattle.eeprom_image.specs.Content.{Content}
use Rattle.eeprom_image.specs.Fault.{plain_word, points_inside, content_fault}
use Rattle.eeprom_image.specs.File.{file_fault}
use Rattle.eeprom_image.specs.Image.{IsImage}
use Rattle.eeprom_image.specs.Text.{IsImageOf}
use Rattle.eeprom_image.specs.Triples.{triples_of}
use Rattle.eeprom_image.specs.declared.file.LoadFault.{LoadFault}
use Rattle.eeprom_image.specs.declared.file.LoadFault.TheVariants.{OddLength, BadSize, SectionOutside, BadChecksum, NotTriples}
use Rattle.eeprom_image.specs.declared.text.AsmFault.{AsmFault}
use Rattle.eeprom_image.specs.declared.text.AsmFault.TheVariants.{TwoValues, Reserved, DoesNotFit, PointerOutside}
use Rattle.datasheet_laws.specs.NumberPrelude.{list_any}

-- Word n of an image, or 0xFFFF if the image has no word n.
abbrev pub nth : List ℕ → ℕ → ℕ
nth words n = get_or words n 0xFFFF

-- 0 and 0xFFFF point to nothing, and say that no words follow.
abbrev pub names_none : ℕ → Bool
names_none w = w == 0 || w == 0xFFFF

-- How many words follow the word at an index, as that word says.
abbrev pub following : List ℕ → ℕ → ℕ
following words at = if names_none (nth words at) then 0 else nth words at

-- The sum of the words that follow the word that word n points to.
abbrev pub pointed_sum : List ℕ → ℕ → ℕ
pointed_sum words n =
    let at = nth words n in sum (if names_none at then [] else take (following words at) (drop (at + 1) words))

-- Word n points to no word, or the word that it points to and all words that follow that word are in the image.
abbrev pub points_in : List ℕ → ℕ → Bool
points_in words n = let at = nth words n in names_none at || nat_lt (at + following words at) (length words)

-- The words that words 0x03 to 0x0E point to are in the image. Nothing is required of other words, for example 0x0F.
abbrev pub all_point_in : List ℕ → Bool
all_point_in words =
    list_all (points_in words)
    (0x03 ∷ 0x04 ∷ 0x05 ∷ 0x06 ∷ 0x07 ∷ 0x08 ∷ 0x09 ∷ 0x0A ∷ 0x0B ∷ 0x0C ∷ 0x0D ∷ 0x0E ∷ [])

-- Words 0x00 to 0x3F, and the contents of the sections that words 0x03 to 0x0E point to, add up to 0xBABA, modulo 2^16.
-- The length word at the start of each section isn't added.
abbrev pub adds_up : List ℕ → Bool
adds_up words =
    (sum (take 64 words) + sum_by (pointed_sum words)
    (0x03 ∷ 0x04 ∷ 0x05 ∷ 0x06 ∷ 0x07 ∷ 0x08 ∷ 0x09 ∷ 0x0A ∷ 0x0B ∷ 0x0C ∷ 0x0D ∷ 0x0E ∷ [])) % 65536 == 0xBABA

-- The words of the section that word 0x0D points to are register writes of three words each.
abbrev pub has_writes : List ℕ → Bool
has_writes words = let at = nth words 0x0D in names_none at || following words at % 3 == 0

-- An image has one of nine numbers of words.
abbrev pub is_number : ℕ → Bool
is_number n =
    list_any (λ size. n == size) (64 ∷ 128 ∷ 256 ∷ 512 ∷ 1024 ∷ 2048 ∷ 4096 ∷ 8192 ∷ 16384 ∷ [])

-- The conditions under which a list of words is an image.
pub record IsByNumber (words : List ℕ) : Type 0 where
  pub size : IsTrue (is_number (length words))
  pub fits : (n : ℕ) → nth words n < 65536
  pub inside : IsTrue (all_point_in words)
  pub checksum : IsTrue (adds_up words)
  pub writes : IsTrue (has_writes words)

abbrev pub ImagesAreByNumber : Type 0
ImagesAreByNumber = (words : List ℕ) → IsImage words ↔ IsByNumber words

-- The first fault of a file in this order, if the file has one.
abbrev pub first_fault : ℕ → List ℕ → Option LoadFault
first_fault count words =
    if not (count % 2 == 0) then Some OddLength else
    if not (is_number (count / 2)) then Some BadSize else
    if not (all_point_in words) then Some SectionOutside else
    if not (adds_up words) then Some BadChecksum else
    if not (has_writes words) then Some NotTriples else None

-- Word n of a file is bytes 2n and 2n + 1, the low byte first.
pub record FileIsRead (bytes : List ℕ) : Type 0 where
  pub fault : file_fault bytes ≡ first_fault (length bytes) (words_of bytes)
  pub word : (n : ℕ) → 2 * n + 1 < length bytes →
      nth (words_of bytes) n ≡ slice_index bytes (2 * n) + 256 * slice_index bytes (2 * n + 1)
  pub count : length (words_of bytes) ≡ length bytes / 2

abbrev pub FilesAreByNumber : Type 0
FilesAreByNumber = (bytes : List ℕ) → FileIsRead bytes

-- The register writes of an image, numbered by k. If word 0x0D is p, word p + 1 + 3k is the register's offset in words,
-- p + 2 + 3k the low half of the data and p + 3 + 3k the high half. The words that follow word p contain as many
-- register writes as fit in them.
pub record WritesStand (words : List ℕ) : Type 0 where
  pub none : names_none (nth words 0x0D) ≡ true → triples_of words ≡ []
  pub count : names_none (nth words 0x0D) ≡ false →
      length (triples_of words) ≡ following words (nth words 0x0D) / 3
  pub each : names_none (nth words 0x0D) ≡ false → (k : ℕ) → 3 * k + 3 ≤ following words (nth words 0x0D) →
      let at = nth words 0x0D + 3 * k in
      slice_get (triples_of words) k
      ≡ Some (4 * nth words (at + 1), nth words (at + 2) + 65536 * nth words (at + 3))

abbrev pub WritesAreByNumber : Type 0
WritesAreByNumber = (words : List ℕ) → IsImage words → WritesStand words

-- The word that word n of an image assembled from source points to is at 0x40 or above. It is in the image, with all
-- words that follow it.
abbrev pub points_past : Content → ℕ → Bool
points_past content n =
    let at = plain_word content n in
    let count = plain_word content at in
    names_none at || (nat_le 0x40 at && nat_lt (at + (if names_none count then 0 else count)) content.size)

-- Only words 0x03 to 0x0E of an image assembled from source are pointers.
abbrev pub TextsPoint : Type 0
TextsPoint =
    (content : Content) →
    points_inside content
    ≡ list_all (points_past content)
    (0x03 ∷ 0x04 ∷ 0x05 ∷ 0x06 ∷ 0x07 ∷ 0x08 ∷ 0x09 ∷ 0x0A ∷ 0x0B ∷ 0x0C ∷ 0x0D ∷ 0x0E ∷ [])

-- A source of 128 words that sets word n to 5.
abbrev pub with_5 : ℕ → Content
with_5 n = record { size = 128; words = (n, 5) ∷ []; triples = [] }

-- Word n is a pointer: a source that sets it to 5 is refused because it points outside.
abbrev pub IsPointer : ℕ → Type 0
IsPointer n = content_fault (with_5 n) ≡ Some PointerOutside

-- Each of words 0x03 to 0x0E is a pointer, but a source can't set word 0x0D. Words 0x02 and 0x0F aren't pointers.
pub record WordsPoint : Type 0 where
  pub below : content_fault (with_5 0x02) ≡ None
  pub first : IsPointer 0x03 × IsPointer 0x04 × IsPointer 0x05 × IsPointer 0x06 × IsPointer 0x07 × IsPointer 0x08
  pub last : IsPointer 0x09 × IsPointer 0x0A × IsPointer 0x0B × IsPointer 0x0C × IsPointer 0x0E
  pub section : content_fault (with_5 0x0D) ≡ Some (Reserved 0x0D)
  pub above : content_fault (with_5 0x0F) ≡ None

-- Register write k of a source is in words 0x41 + 3k to 0x43 + 3k, in the order of the source, and word 0x40 says how
-- many words follow it. Word 0x0D is then 0x40; without register writes, it is 0xFFFF.
pub record IsLaidOutSo (content : Content) : Type 0 where
  pub none : content.triples ≡ [] → plain_word content 0x0D ≡ 0xFFFF
  pub some : content.triples ≢ [] → plain_word content 0x0D ≡ 0x40
  pub count : content.triples ≢ [] → plain_word content 0x40 ≡ 3 * length content.triples
  pub each : (k offset word : ℕ) → slice_get content.triples k ≡ Some (offset, word) →
      (plain_word content (0x41 + 3 * k) ≡ offset / 4 % 65536)
      × (plain_word content (0x42 + 3 * k) ≡ word % 65536)
      × (plain_word content (0x43 + 3 * k) ≡ word / 65536)

abbrev pub TextsAreByNumber : Type 0
TextsAreByNumber = (content : Content) → IsLaidOutSo content

-- The fault of a source of `size` words that sets these words, and repeats the same register write `writes` times.
abbrev pub text_fault : (size : ℕ) → List (ℕ × ℕ) → (writes : ℕ) → Option AsmFault
text_fault size words writes =
    content_fault (record { size = size; words = words; triples = replicate writes (0x05080, 0x400) })

-- The lowest index that occurs twice, with the same value or not, is reported whatever else is wrong.
pub record TwiceIsFirst : Type 0 where
  pub lowest : text_fault 64 ((0x05, 1) ∷ (0x05, 1) ∷ (0x01, 1) ∷ (0x01, 2) ∷ []) 0 ≡ Some (TwoValues 0x01)
  pub apart : text_fault 64 ((0x05, 1) ∷ (0x06, 1) ∷ (0x05, 2) ∷ []) 0 ≡ Some (TwoValues 0x05)
  pub reserved : text_fault 64 ((0x0D, 1) ∷ (0x3F, 1) ∷ (0x3F, 1) ∷ []) 0 ≡ Some (TwoValues 0x3F)
  pub outside : text_fault 64 ((0x03, 5) ∷ (0x40, 1) ∷ (0x40, 1) ∷ []) 1 ≡ Some (TwoValues 0x40)

-- The second fault is a reserved index; the lowest is reported. Indices 0x0D and 0x3F are reserved, and so is the
-- section of the register writes: word 0x40 and three words for each write, starting at 0x41; no words without writes.
pub record ReservedIsSecond : Type 0 where
  pub pointer : text_fault 64 ((0x0D, 0xFFFF) ∷ []) 0 ≡ Some (Reserved 0x0D)
  pub checksum : text_fault 64 ((0x3F, 0xFFFF) ∷ []) 0 ≡ Some (Reserved 0x3F)
  pub lowest : text_fault 64 ((0x3F, 1) ∷ (0x0D, 1) ∷ []) 0 ≡ Some (Reserved 0x0D)
  pub beside : text_fault 128 ((0x0C, 0) ∷ (0x0E, 0) ∷ (0x3E, 1) ∷ (0x44, 1) ∷ []) 1 ≡ None
  pub first : text_fault 128 ((0x40, 1) ∷ []) 1 ≡ Some (Reserved 0x40)
  pub last : text_fault 128 ((0x43, 1) ∷ []) 1 ≡ Some (Reserved 0x43)
  pub second : text_fault 128 ((0x46, 1) ∷ []) 2 ≡ Some (Reserved 0x46)
  pub without : text_fault 128 ((0x40, 1) ∷ (0x43, 1) ∷ []) 0 ≡ None
  pub outside : text_fault 64 ((0x40, 1) ∷ (0x3F, 1) ∷ []) 0 ≡ Some (Reserved 0x3F)

-- The third fault is what doesn't fit: an index at or above the size, or a section that ends after the last word.
pub record FittingIsThird : Type 0 where
  pub index : text_fault 64 ((0x40, 1) ∷ []) 0 ≡ Some DoesNotFit
  pub within : text_fault 64 ((0x3E, 1) ∷ []) 0 ≡ None
  pub none_in_64 : text_fault 64 [] 1 ≡ Some DoesNotFit
  pub all_of_128 : text_fault 128 [] 21 ≡ None
  pub more_than_128 : text_fault 128 [] 22 ≡ Some DoesNotFit
  pub last_of_128 : text_fault 128 ((0x7F, 1) ∷ []) 0 ≡ None
  pub after_128 : text_fault 128 ((0x80, 1) ∷ []) 0 ≡ Some DoesNotFit
  pub before_pointers : text_fault 64 ((0x03, 5) ∷ (0x40, 1) ∷ []) 0 ≡ Some DoesNotFit

pub record TextsHaveFaults : Type 0 where
  pub twice : TwiceIsFirst
  pub reserved : ReservedIsSecond
  pub fitting : FittingIsThird

-- A word inside an image reads as it is stored, and a word outside reads as 0xFFFF.
pub record OutsideReadsOnes (words : List ℕ) (n : ℕ) : Type 0 where
  pub inside : n < length words → word_at words n ≡ slice_index words n
  pub outside : length words ≤ n → word_at words n ≡ 0xFFFF

abbrev pub WordsAreRead : Type 0
WordsAreRead = (words : List ℕ) (n : ℕ) → OutsideReadsOnes words n
