-- If content has an image, the image has the words that the content defines, and the content has no fault.
use Rattle.std.proofs.Common.{◌≡◌, ◌≢◌, ℕ, zero, suc, ◌+◌, ◌-◌, ◌*◌, ◌%◌, ◌/◌, ◌<◌, ◌≤◌, Bool, true, false, nat_lt, nat_le, ◌&&◌, List, [], ◌∷◌, length, get_or, take, drop, None, refl, sym, ap, ◌∙◌, inl, inr, arith, length-take, length-drop, get_or-drop, get_or-take}
use Rattle.std.specs.List.{flat_map}
use Rattle.std.proofs.lemmas.List.{get_or_past}
use Rattle.std.proofs.lemmas.Bool.{and_parts, cases_lt, eqb-true}
use Rattle.std.proofs.lemmas.Bool.Decides.{eqb_tells}
use borrow.Author.Tests.{leb-true, ltb-true, apart_eqb}
use Rattle.eeprom_image.specs.Bytes.{word_at}
use Rattle.eeprom_image.specs.Section.{is_unused, word_count}
use Rattle.eeprom_image.specs.Triples.{triples_in}
use Rattle.eeprom_image.specs.Image.{is_size}
use Rattle.eeprom_image.specs.Content.{Content}
use Rattle.eeprom_image.specs.Fault.{least, section_end, is_reserved, triple_words, csr_section, csr_pointer, plain_word, points_inside, content_fault, twice_given, reserved_given}
use Rattle.eeprom_image.specs.Text.{IsImageOf}
use Rattle.eeprom_image.proofs.Sections.{csr_inside}
use Rattle.eeprom_image.proofs.Layouts.{length-flat_triples, section_end-is}
use Rattle.eeprom_image.proofs.Pointers.{points_inside-is}
use Rattle.eeprom_image.proofs.Faultless.{size_bounds}
use Rattle.eeprom_image.proofs.LaidTriples.{plain_in_section}
use Rattle.eeprom_image.proofs.Images.{plain_word-given}

-- Splitting whole triples of words and joining them again returns the words.
untriple : (words : List ℕ) → length words % 3 ≡ 0 → ((index : ℕ) → get_or words index 65535 < 65536)
    → words ≡ flat_map triple_words (triples_in words)
untriple [] whole fit = refl
untriple (a ∷ []) whole fit = absurd (omega arith)
untriple (a ∷ b ∷ []) whole fit = absurd (omega arith)
untriple (offset ∷ low ∷ high ∷ words) whole fit =
    let fit0 = fit 0 in
    let fit1 = fit 1 in
    let first : offset ≡ 4 * offset / 4 % 65536 = omega arith in
    let second : low ≡ (low + 65536 * high) % 65536 = omega arith in
    let third : high ≡ (low + 65536 * high) / 65536 = omega arith in
    let rest = untriple words (omega arith) (λ index. fit (suc (suc (suc index)))) in
    cc

part_fits : (words : List ℕ) (first count : ℕ) → ((index : ℕ) → word_at words index < 65536) → (index : ℕ)
    → get_or (take count (drop first words)) index 65535 < 65536
part_fits words first count fit index = elim (cases_lt index count) [
  | inl near ↦ rw (
    get_or-take count (drop first words) index 65535 near,
    get_or-drop first words index 65535,
  ) (fit (first + index))
  | inr far ↦ rw (get_or_past (take count (drop first words)) index 65535 (simp length-take (omega arith)))
      (omega arith)
]

count_cases : (word : ℕ) (unused : Bool) → is_unused word ≡ unused → word_count word ≢ 0 → word ≡ word_count word
count_cases word true is some = absurd (some (rw is refl))
count_cases word false is some = rw is refl

module _ (content : Content) (words : List ℕ) (h : IsImageOf content words) where
  section_of_image : (triple : ℕ × ℕ) (triples : List (ℕ × ℕ)) → content.triples ≡ triple ∷ triples
      → (k : ℕ) → k < length (csr_section content.triples)
      → word_at words (64 + k) ≡ get_or (csr_section content.triples) k 65535
  section_of_image triple triples some k near =
      let count = word_count (word_at words 64) in
      let pointer : word_at words 13 ≡ 64 = h.pointer ∙ ap csr_pointer some in
      let inside : 64 + word_count (word_at words 64) < length words =
      ltb-true (64 + word_count (word_at words 64)) (length words) (rw pointer at (csr_inside words h.image.sections))
      in
      let whole : word_count (word_at words 64) % 3 ≡ 0 =
      eqb-true (word_count (word_at words 64) % 3) 0 (rw pointer at h.image.triples) in
      let found : triples_in (take (word_count (word_at words 64)) (drop 65 words)) ≡ content.triples =
      rw pointer at h.triples in
      let long : length (take (word_count (word_at words 64)) (drop 65 words)) ≡ word_count (word_at words 64) =
      simp (length-take, length-drop) (omega arith) in
      let body : take (word_count (word_at words 64)) (drop 65 words) ≡ flat_map triple_words content.triples =
      untriple (take (word_count (word_at words 64)) (drop 65 words)) (ap (λ n. n % 3) long ∙ whole)
      (part_fits words 65 (word_count (word_at words 64)) h.image.fits)
      ∙ ap (flat_map triple_words) found in
      let flat = length-flat_triples content.triples in
      let counted : word_count (word_at words 64) ≡ 3 * length content.triples = sym long ∙ ap length body ∙ flat in
      let many : length content.triples ≡ length (triple ∷ triples) = ap length some in
      let first : word_at words 64 ≡ 3 * length content.triples =
      count_cases (word_at words 64) (is_unused (word_at words 64)) refl (omega arith) ∙ counted in
      at k near first body counted
    where
      at : (k : ℕ) → k < length (csr_section content.triples) → word_at words 64 ≡ 3 * length content.triples
          → take (word_count (word_at words 64)) (drop 65 words) ≡ flat_map triple_words content.triples
          → word_count (word_at words 64) ≡ 3 * length content.triples
          → word_at words (64 + k) ≡ get_or (csr_section content.triples) k 65535
      at zero near first body counted = first
      at (suc j) near first body counted =
          let flat = length-flat_triples content.triples in
          let place : 64 + suc j ≡ 65 + j = omega arith in
          ap (λ i. word_at words i) place ∙ sym (get_or-drop 65 words j 65535)
          ∙ sym (get_or-take (word_count (word_at words 64)) (drop 65 words) j 65535 (omega arith))
          ∙ ap (λ xs. get_or xs j 65535) body

  in_section : (triples : List (ℕ × ℕ)) → content.triples ≡ triples → (index : ℕ) → 64 ≤ index
      → index < section_end content.triples → word_at words index ≡ plain_word content index
  in_section [] none index low high = let end : section_end content.triples ≡ 64 = ap section_end none in
      absurd (omega arith)
  in_section (triple ∷ triples) some index low high =
      let end : section_end content.triples ≡ 64 + length (csr_section content.triples) =
      rw some (section_end-is triple triples) in
      let place : index ≡ 64 + (index - 64) = omega arith in
      let near : index - 64 < length (csr_section content.triples) = omega arith in
      ap (λ i. word_at words i) place ∙ section_of_image triple triples some (index - 64) near
      ∙ sym (plain_in_section content triple triples some (index - 64) near) ∙ ap (plain_word content) (sym place)

  by_section : (index : ℕ) → index < content.size → index ≢ 13 → index ≢ 63 → (inside : Bool)
      → (nat_le 64 index && nat_lt index (section_end content.triples)) ≡ inside
      → word_at words index ≡ plain_word content index
  by_section index there apart other true is =
      let both = and_parts (nat_le 64 index) (nat_lt index (section_end content.triples)) is in
      in_section content.triples refl index (leb-true 64 index both.0)
      (ltb-true index (section_end content.triples) both.1)
  by_section index there apart other false is =
      let free : is_reserved (section_end content.triples) index ≡ false =
      rw (apart_eqb index 13 apart, apart_eqb index 63 other, is) refl in
      h.given index there free ∙ sym (plain_word-given content index free)

  -- An image has the words that its content defines.
  pub plain_of_image : (index : ℕ) → index < content.size → index ≢ 63 → word_at words index ≡ plain_word content index
  plain_of_image index there other = elim (eqb_tells index 13) [
    | inl (t, here) ↦ rw t (ap (λ i. word_at words i) here ∙ h.pointer)
    | inr (t, apart) ↦ by_section index there apart other (nat_le 64 index
        && nat_lt index (section_end content.triples)) refl
  ]

  pub size_of_image : (64 ≤ content.size) × (content.size ≤ 16384)
  size_of_image = size_bounds content.size (ap is_size (sym h.size) ∙ h.image.size)

  -- Content that has an image has no fault.
  pub content_fault-of_image : content_fault content ≡ None
  unfolding content_fault
  content_fault-of_image =
      let twice : twice_given content ≡ None = ap least h.once in
      let reserved : reserved_given content ≡ None = ap least h.free in
      let points : points_inside content ≡ true =
      points_inside-is content words h.size plain_of_image size_of_image.0
      ∙ rw (h.pointers, h.image.sections) refl in
      rw (twice, reserved, h.inside, points) refl
