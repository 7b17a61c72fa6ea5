-- EEPROM images, in terms of the numbers of their words and bytes.
use Rattle.std.proofs.Common.{◌≡◌, ◌≢◌, ℕ, zero, suc, ◌+◌, ◌*◌, ◌/◌, ◌%◌, ◌<◌, ◌≤◌, true, false, List, [], ◌∷◌, length, take, drop, get_or}
use Rattle.std.proofs.Common.{Some, None, inl, inr, ltb, refl, ap, sym, ◌∙◌, arith, length-take, length-drop, get_or-drop, get_or-take}
use Rattle.std.specs.List.{slice_get, flat_map}
use Rattle.std.proofs.lemmas.Bool.{both_ways, or_cases, ltb-true}
use Rattle.std.proofs.lemmas.Option.{none-some, slice_get_within, some_pair_parts}
use Rattle.eeprom_image.specs.Bytes.{words_of}
use Rattle.eeprom_image.specs.Content.{Content}
use Rattle.eeprom_image.specs.Fault.{triple_words, csr_section, csr_pointer, plain_word, points_inside, content_fault}
use Rattle.eeprom_image.specs.File.{file_fault}
use Rattle.eeprom_image.specs.Image.{IsImage}
use Rattle.eeprom_image.specs.Section.{is_inside, pointers, section_at}
use Rattle.eeprom_image.specs.Triples.{triples_in, triples_of}
use Rattle.eeprom_image.proofs.FileBytes.{length-words_of}
use Rattle.eeprom_image.proofs.LaidTriples.{plain_in_section}
use Rattle.eeprom_image.proofs.Layouts.{length-flat_triples}
use Rattle.eeprom_image.proofs.Sections.{csr_inside}
use Rattle.eeprom_image.proofs.TripleLists.{length-triples_in}
use Rattle.datasheet_laws.specs.Eeprom.{nth, names_none, following, FileIsRead, WritesStand, IsLaidOutSo}
use Rattle.datasheet_laws.specs.Eeprom.{ImagesAreByNumber, FilesAreByNumber, WritesAreByNumber}
use Rattle.datasheet_laws.specs.Eeprom.{TextsPoint, WordsPoint, TextsAreByNumber, TextsHaveFaults, WordsAreRead}

pub images : ImagesAreByNumber
unfolding pointers
images words = (
  λ is. record {
    size = is.size;
    fits = is.fits;
    inside = is.sections;
    checksum = is.checksum;
    writes = is.triples;
  },
  λ is. record {
    size = is.size;
    fits = is.fits;
    sections = is.inside;
    checksum = is.checksum;
    triples = is.writes;
  },
)

-- Each word consists of its two bytes.
word_read : (bytes : List ℕ) (n : ℕ) → 2 * n + 1 < length bytes →
    nth (words_of bytes) n ≡ get_or bytes (2 * n) 0 + 256 * get_or bytes (2 * n + 1) 0
word_read [] n h = absurd (omega arith)
word_read (low ∷ []) n h = absurd (omega arith)
word_read (low ∷ high ∷ bytes) zero h = refl
word_read (low ∷ high ∷ bytes) (suc n) h =
    let first : 2 * suc n ≡ suc (suc (2 * n)) = omega arith in
    let second : 2 * suc n + 1 ≡ suc (suc (2 * n + 1)) = omega arith in
    let all = low ∷ high ∷ bytes in
    word_read bytes n (omega arith) ∙ (λ k. get_or all (sym first k) 0 + 256 * get_or all (sym second k) 0)

file_read : (bytes : List ℕ) → FileIsRead bytes
unfolding file_fault pointers
file_read bytes = record { fault = refl; word = word_read bytes; count = length-words_of bytes }

pub files : FilesAreByNumber
files bytes = file_read bytes

-- Register write k of the words of a section.
triple_at : (words : List ℕ) (k : ℕ) → 3 * k + 3 ≤ length words →
    slice_get (triples_in words) k
    ≡ Some (4 * nth words (3 * k), nth words (3 * k + 1) + 65536 * nth words (3 * k + 2))
triple_at [] k h = absurd (omega arith)
triple_at (a ∷ []) k h = absurd (omega arith)
triple_at (a ∷ b ∷ []) k h = absurd (omega arith)
triple_at (a ∷ b ∷ c ∷ words) zero h = refl
triple_at (a ∷ b ∷ c ∷ words) (suc k) h =
    let first : 3 * suc k ≡ suc (suc (suc (3 * k))) = omega arith in
    let second : 3 * suc k + 1 ≡ suc (suc (suc (3 * k + 1))) = omega arith in
    let third : 3 * suc k + 2 ≡ suc (suc (suc (3 * k + 2))) = omega arith in
    let all = a ∷ b ∷ c ∷ words in
    triple_at words k (omega arith)
    ∙ (λ i. Some (4 * nth all (sym first i), nth all (sym second i) + 65536 * nth all (sym third i)))

-- The section is what follows the word that word 0x0D points to.
section_is : (words : List ℕ) → names_none (nth words 13) ≡ false →
    section_at words (nth words 13) ≡ take (following words (nth words 13)) (drop (nth words 13 + 1) words)
section_is words points = rw points refl

section_ends : (words : List ℕ) → IsImage words → names_none (nth words 13) ≡ false →
    nth words 13 + following words (nth words 13) < length words
section_ends words is points =
    let last = nth words 13 + following words (nth words 13) in
    elim (or_cases (names_none (nth words 13)) (ltb last (length words)) (csr_inside words is.sections)) [
      | inl none ↦ absurd (both_ways (names_none (nth words 13)) points none)
      | inr inside ↦ ltb-true last (length words) inside
    ]

section_length : (words : List ℕ) → IsImage words → names_none (nth words 13) ≡ false →
    length (section_at words (nth words 13)) ≡ following words (nth words 13)
section_length words is points =
    let at = nth words 13 in
    let n = following words at in
    ap length (section_is words points)
    ∙ omega (arith, length-take n (drop (at + 1) words), length-drop (at + 1) words, section_ends words is points)

-- Word i of the section is i words after the section's first word.
word_in_section : (words : List ℕ) → names_none (nth words 13) ≡ false → (i j : ℕ) →
    i < following words (nth words 13) → nth words 13 + 1 + i ≡ j →
    nth (section_at words (nth words 13)) i ≡ nth words j
word_in_section words points i j below is =
    let at = nth words 13 in
    let n = following words at in
    ap (λ s. nth s i) (section_is words points)
    ∙ get_or-take n (drop (at + 1) words) i 65535 below ∙ get_or-drop (at + 1) words i 65535 ∙ ap (nth words) is

writes_stand : (words : List ℕ) → IsImage words → WritesStand words
writes_stand words is = record {
  none = λ unused. rw unused refl;
  count = λ points.
      length-triples_in (section_at words (nth words 13)) ∙ ap (λ n. n / 3) (section_length words is points);
  each = λ points k below.
      let at = nth words 13 in
      let section = section_at words at in
      let first = word_in_section words points (3 * k) (at + 3 * k + 1) (omega arith) (omega arith) in
      let second = word_in_section words points (3 * k + 1) (at + 3 * k + 2) (omega arith) (omega arith) in
      let third = word_in_section words points (3 * k + 2) (at + 3 * k + 3) (omega arith) (omega arith) in
      triple_at section k (omega (arith, section_length words is points))
      ∙ (λ i. Some (4 * first i, second i + 65536 * third i));
}

pub writes : WritesAreByNumber
writes words is = writes_stand words is

pub point : TextsPoint
unfolding points_inside
point content = refl

pub words_point : WordsPoint
unfolding content_fault points_inside
words_point = record {
  below = refl;
  first = (refl, refl, refl, refl, refl, refl);
  last = (refl, refl, refl, refl, refl);
  section = refl;
  above = refl;
}

-- The words of register write k, in sequence.
in_flat : (triples : List (ℕ × ℕ)) (k offset word : ℕ) → slice_get triples k ≡ Some (offset, word) →
    (nth (flat_map triple_words triples) (3 * k) ≡ offset / 4 % 65536)
    × (nth (flat_map triple_words triples) (3 * k + 1) ≡ word % 65536)
    × (nth (flat_map triple_words triples) (3 * k + 2) ≡ word / 65536)
in_flat [] k offset word h = absurd (none-some (offset, word) h)
in_flat (t ∷ triples) zero offset word h =
    let same = some_pair_parts t.0 offset t.1 word h in
    (ap (λ n. n / 4 % 65536) same.0, ap (λ n. n % 65536) same.1, ap (λ n. n / 65536) same.1)
in_flat (t ∷ triples) (suc k) offset word h =
    let rest = in_flat triples k offset word h in
    let all = flat_map triple_words (t ∷ triples) in
    let first : 3 * suc k ≡ suc (suc (suc (3 * k))) = omega arith in
    let second : 3 * suc k + 1 ≡ suc (suc (suc (3 * k + 1))) = omega arith in
    let third : 3 * suc k + 2 ≡ suc (suc (suc (3 * k + 2))) = omega arith in
    (ap (nth all) first ∙ rest.0, ap (nth all) second ∙ rest.1, ap (nth all) third ∙ rest.2)

-- A word of the section of a source is the next word of its register writes.
in_section : (content : Content) (t : ℕ × ℕ) (triples : List (ℕ × ℕ)) → content.triples ≡ t ∷ triples → (i j : ℕ) →
    i < 3 * length content.triples → 65 + i ≡ j → plain_word content j ≡ nth (flat_map triple_words content.triples) i
in_section content t triples some i j below is =
    let place : 64 + suc i ≡ j = omega arith in
    ap (plain_word content) (sym place)
    ∙ plain_in_section content t triples some (suc i) (omega (arith, length-flat_triples content.triples))

laid_out : (content : Content) → IsLaidOutSo content
laid_out content = go content.triples refl where
  go : (triples : List (ℕ × ℕ)) → content.triples ≡ triples → IsLaidOutSo content
  go [] none = record {
    none = λ h. ap csr_pointer h;
    some = λ h. absurd (h none);
    count = λ h. absurd (h none);
    each = λ k offset word h.
        absurd (none-some (offset, word) (sym (ap (λ (ts : List (ℕ × ℕ)). slice_get ts k) none) ∙ h));
  }
  go (t ∷ triples) is = record {
    none = λ h. ap csr_pointer h;
    some = λ h. ap csr_pointer is;
    count = λ h. plain_in_section content t triples is 0 (omega arith);
    each = λ k offset word h.
        let within = slice_get_within content.triples k (offset, word) h in
        let all = in_flat content.triples k offset word h in
        let put = in_section content t triples is in (
          put (3 * k) (0x41 + 3 * k) (omega arith) (omega arith) ∙ all.0,
          put (3 * k + 1) (0x42 + 3 * k) (omega arith) (omega arith) ∙ all.1,
          put (3 * k + 2) (0x43 + 3 * k) (omega arith) (omega arith) ∙ all.2,
        );
  }

pub texts : TextsAreByNumber
texts content = laid_out content

pub faults : TextsHaveFaults
unfolding content_fault points_inside
faults = record {
  twice = record { lowest = refl; apart = refl; reserved = refl; outside = refl };
  reserved = record {
    pointer = refl;
    checksum = refl;
    lowest = refl;
    beside = refl;
    first = refl;
    last = refl;
    second = refl;
    without = refl;
    outside = refl;
  };
  fitting = record {
    index = refl;
    within = refl;
    none_in_64 = refl;
    all_of_128 = refl;
    more_than_128 = refl;
    last_of_128 = refl;
    after_128 = refl;
    before_pointers = refl;
  };
}

-- A word inside the image reads as it is stored; outside the image there is no word.
word_inside : (words : List ℕ) (n : ℕ) → n < length words → get_or words n 0xFFFF ≡ get_or words n 0
word_inside [] n h = absurd (omega arith)
word_inside (w ∷ words) zero h = refl
word_inside (w ∷ words) (suc n) h = word_inside words n (omega arith)

word_outside : (words : List ℕ) (n : ℕ) → length words ≤ n → get_or words n 0xFFFF ≡ 0xFFFF
word_outside [] n h = refl
word_outside (w ∷ words) zero h = absurd (omega arith)
word_outside (w ∷ words) (suc n) h = word_outside words n (omega arith)

pub words_read : WordsAreRead
words_read words n = record { inside = word_inside words n; outside = word_outside words n }
