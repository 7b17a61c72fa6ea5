-- Reading triples that were laid out returns the same triples.
use Rattle.std.proofs.Common.{◌≡◌, ◌≢◌, ℕ, suc, ◌+◌, ◌-◌, ◌*◌, ◌%◌, ◌/◌, ◌<◌, ◌≤◌, true, ◌==◌, List, [], ◌∷◌, length, get_or, take, drop, refl, sym, ap, ◌∙◌, arith, length-take, length-drop, get_or-drop, get_or-take}
use Rattle.std.specs.List.{flat_map, AllByRecursion}
use Rattle.std.proofs.lemmas.List.{ext_get_or}
use Rattle.std.proofs.lemmas.Bool.{lt-ltb, le-leb, eq-eqb}
use borrow.Author.Tests.{apart_eqb}
use Rattle.eeprom_image.specs.Bytes.{word_at}
use Rattle.eeprom_image.specs.Section.{word_count, section_at}
use Rattle.eeprom_image.specs.Triples.{triples_in, triples_of, has_whole_triples}
use Rattle.eeprom_image.specs.Content.{Content}
use Rattle.eeprom_image.specs.Fault.{section_end, triple_words, csr_section, csr_pointer, plain_word}
use Rattle.eeprom_image.proofs.Layouts.{length-flat_triples, section_end-is}

triples_in-flat : (triples : List (ℕ × ℕ))
    → AllByRecursion (λ triple. (triple.0 % 4 ≡ 0) × (triple.0 < 0x40000) × (triple.1 < 65536 * 65536)) triples
    → triples_in (flat_map triple_words triples) ≡ triples
triples_in-flat [] fit = refl
triples_in-flat (triple ∷ triples) fit =
    let whole = fit.0.0 in
    let near = fit.0.1 in
    let offset : 4 * (triple.0 / 4 % 65536) ≡ triple.0 = omega arith in
    let value : triple.1 % 65536 + 65536 * (triple.1 / 65536) ≡ triple.1 = omega arith in
    let rest = triples_in-flat triples fit.1 in
    let pair : ((4 * (triple.0 / 4 % 65536)), (triple.1 % 65536 + 65536 * (triple.1 / 65536))) ≡ triple =
    ap (λ (n : ℕ). (n, (triple.1 % 65536 + 65536 * (triple.1 / 65536)))) offset ∙ ap (λ (n : ℕ). (triple.0, n)) value in
    ap (λ (t : ℕ × ℕ). t ∷ triples_in (flat_map triple_words triples)) pair
    ∙ ap (λ (ts : List (ℕ × ℕ)). triple ∷ ts) rest

word_count-is : (n : ℕ) → n ≢ 0 → n ≢ 65535 → word_count n ≡ n
word_count-is n some short = rw (apart_eqb n 0 some, apart_eqb n 65535 short) refl

-- The words of the laid-out CSR section.
pub plain_in_section : (content : Content) (triple : ℕ × ℕ) (triples : List (ℕ × ℕ))
    → content.triples ≡ triple ∷ triples
    → (k : ℕ) → k < length (csr_section content.triples)
    → plain_word content (64 + k) ≡ get_or (csr_section content.triples) k 65535
plain_in_section content triple triples some k inside =
    let end : section_end content.triples ≡ 64 + length (csr_section content.triples) =
    rw some (section_end-is triple triples) in
    let elsewhere = apart_eqb (64 + k) 13 (λ e. absurd (omega arith)) in
    let after = le-leb 64 (64 + k) (omega arith) in
    let before = lt-ltb (64 + k) (section_end content.triples) (omega arith) in
    let place : 64 + k - 64 ≡ k = omega arith in
    rw (elsewhere, after, before, place) refl

module _ (content : Content) (words : List ℕ) (size : length words ≡ content.size) (same : (index : ℕ)
    → index < content.size → index ≢ 63
    → word_at words index ≡ plain_word content index) (long : 64 ≤ content.size) (short : content.size ≤ 16384)
    (room : section_end content.triples ≤ content.size) where
  pub pointer_is : word_at words 13 ≡ csr_pointer content.triples
  pointer_is = same 13 (omega arith) (omega arith)

  with_triples : (triple : ℕ × ℕ) (triples : List (ℕ × ℕ)) → content.triples ≡ triple ∷ triples
      → (section_at words (word_at words 13) ≡ flat_map triple_words content.triples) × (has_whole_triples words ≡ true)
  with_triples triple triples some =
      let count = 3 * length content.triples in
      let end : section_end content.triples ≡ 64 + length (csr_section content.triples) =
      rw some (section_end-is triple triples) in
      let flat = length-flat_triples content.triples in
      let many : length content.triples ≡ length (triple ∷ triples) = ap length some in
      let pointer : word_at words 13 ≡ 64 = pointer_is ∙ ap csr_pointer some in
      let first : word_at words 64 ≡ 3 * length content.triples =
      same 64 (omega arith) (omega arith) ∙ plain_in_section content triple triples some 0 (omega arith) in
      let counted : word_count (word_at words 64) ≡ 3 * length content.triples =
      rw first (word_count-is (3 * length content.triples) (omega arith) (omega arith)) in
      let body : take (3 * length content.triples) (drop 65 words) ≡ flat_map triple_words content.triples =
      ext_get_or 65535 (take (3 * length content.triples) (drop 65 words)) (flat_map triple_words content.triples)
      (simp (length-take, length-drop) (omega arith)) (λ k below.
      let near : k < 3 * length content.triples =
      omega (arith, length-take (3 * length content.triples) (drop 65 words)) in
      let place : 65 + k ≡ 64 + suc k = omega arith in
      get_or-take (3 * length content.triples) (drop 65 words) k 65535 near ∙ get_or-drop 65 words k 65535
      ∙ ap (λ i. word_at words i) place
      ∙ same (64 + suc k) (omega arith) (omega arith)
      ∙ plain_in_section content triple triples some (suc k) (omega arith)) in
      let whole : ((3 * length content.triples % 3) == 0) ≡ true =
      eq-eqb (3 * length content.triples % 3) 0 (omega arith) in
      (rw pointer (rw counted body), rw pointer (rw counted whole))

  pub triples_laid : (fit : AllByRecursion (λ triple. (triple.0 % 4 ≡ 0) × (triple.0 < 0x40000)
      × (triple.1 < 65536 * 65536)) content.triples)
      → (triples_of words ≡ content.triples) × (has_whole_triples words ≡ true)
  triples_laid fit = go content.triples refl where
    go : (triples : List (ℕ × ℕ)) → content.triples ≡ triples
        → (triples_of words ≡ content.triples) × (has_whole_triples words ≡ true)
    go [] none = let pointer : word_at words 13 ≡ 65535 = pointer_is ∙ ap csr_pointer none in
        (rw pointer (sym none), rw pointer refl)
    go (triple ∷ triples) some =
        let both = with_triples triple triples some in
        (ap triples_in both.0 ∙ triples_in-flat content.triples fit, both.1)
