-- Lemmas about the words of an image after everything that EEPROM source defines is written to them.
use Rattle.std.proofs.Common.{◌≡◌, ◌≢◌, ℕ, ◌+◌, ◌<◌, ◌≤◌, false, nat_le, List, [], ◌∷◌, length, set, fold, refl, sym, ap, ◌∙◌, inl, inr, arith, length-set, get_or-set_same, get_or-set_other, replicate}
use Rattle.std.proofs.lemmas.List.{length-replicate, get_or-replicate}
use Rattle.std.proofs.lemmas.Bool.{lt-leb}
use Rattle.std.proofs.lemmas.Bool.Decides.{eqb_tells}
use Rattle.eeprom_image.specs.Bytes.{word_at}
use Rattle.eeprom_image.specs.Content.{Content}
use Rattle.eeprom_image.specs.Fault.{plain_word, given_word, csr_section, section_end}
use Rattle.eeprom_image.specs.Layout.{put_word, with_section, with_csr, IsLaidOut}
use Rattle.eeprom_image.proofs.Layouts.{length-put_words, length-with_section, no_section, section_end-is, value_after, word_at-put_words, word_at-with_section}

-- The words, after the CSR section and its pointer are written among the defined words.
pub laid_with_triples : (content : Content) (words : List ℕ) (triple : ℕ × ℕ) (triples : List (ℕ × ℕ))
    → content.triples ≡ triple ∷ triples
    → length words ≡ content.size → section_end content.triples ≤ content.size
    → ((index : ℕ) → index < content.size → word_at words index ≡ given_word content.words index)
    → (index : ℕ) → index < content.size → index ≢ 63
    → word_at (set (with_section (set words 13 64) (csr_section content.triples)) 63 0) index ≡ plain_word content index
laid_with_triples content words triple triples some size fits given index inside other =
    let section = csr_section content.triples in
    let end : section_end content.triples ≡ 64 + length (csr_section content.triples) =
    rw some (section_end-is triple triples) in
    let room : 64 + length section ≤ length (set words 13 64) = omega (arith, length-set words 13 64) in
    let there : index < length (set words 13 64) = omega (arith, length-set words 13 64) in
    let after = get_or-set_other (with_section (set words 13 64) section) 63 index 0 65535 other in
    let around = word_at-with_section (set words 13 64) section index room there in
    rw after (rw around (elim (eqb_tells index 13) [
      | inl (t, at) ↦
          let low : nat_le 64 index ≡ false = lt-leb 64 index (omega arith) in
          let here : word_at (set words 13 64) index ≡ 64 =
          ap (λ i. word_at (set words 13 64) i) at ∙ get_or-set_same words 13 64 65535 (omega arith) in
          rw (low, here, t, some) refl
      | inr (t, apart) ↦
          let here : word_at (set words 13 64) index ≡ given_word content.words index =
          get_or-set_other words 13 index 64 65535 apart ∙ given index inside in
          rw (here, t, end) refl
    ]))

pub laid_without_triples : (content : Content) (words : List ℕ) → content.triples ≡ [] → length words ≡ content.size
    → 64 ≤ content.size
    → ((index : ℕ) → index < content.size → word_at words index ≡ given_word content.words index)
    → (index : ℕ) → index < content.size → index ≢ 63
    → word_at (set (set words 13 65535) 63 0) index ≡ plain_word content index
laid_without_triples content words none size long given index inside other =
    let after = get_or-set_other (set words 13 65535) 63 index 0 65535 other in
    rw after (elim (eqb_tells index 13) [
      | inl (t, at) ↦
          let here : word_at (set words 13 65535) index ≡ 65535 =
          ap (λ i. word_at (set words 13 65535) i) at ∙ get_or-set_same words 13 65535 65535 (omega arith) in
          rw (here, t, none) refl
      | inr (t, apart) ↦
          let here : word_at (set words 13 65535) index ≡ given_word content.words index =
          get_or-set_other words 13 index 65535 65535 apart ∙ given index inside in
          rw (here, t, none, no_section index) refl
    ])

length-with_csr : (words : List ℕ) (triples : List (ℕ × ℕ)) → section_end triples ≤ length words
    → length (with_csr words triples) ≡ length words
length-with_csr words [] room = length-set words 13 65535
length-with_csr words (triple ∷ triples) room =
    let end = section_end-is triple triples in
    let same = length-set words 13 64 in
    length-with_section (set words 13 64) (csr_section (triple ∷ triples)) (omega arith) ∙ same

laid_csr : (content : Content) (words : List ℕ) → length words ≡ content.size → 64 ≤ content.size
    → section_end content.triples ≤ content.size
    → ((index : ℕ) → index < content.size → word_at words index ≡ given_word content.words index)
    → (triples : List (ℕ × ℕ)) → content.triples ≡ triples → (index : ℕ) → index < content.size → index ≢ 63
    → word_at (set (with_csr words content.triples) 63 0) index ≡ plain_word content index
laid_csr content words size long room given [] none index inside other =
    ap (λ ts. word_at (set (with_csr words ts) 63 0) index) none
    ∙ laid_without_triples content words none size long given index inside other
laid_csr content words size long room given (triple ∷ triples) some index inside other =
    ap (λ ts. word_at (set (with_csr words ts) 63 0) index) some
    ∙ ap (λ ts. word_at (set (with_section (set words 13 64) (csr_section ts)) 63 0) index) (sym some)
    ∙ laid_with_triples content words triple triples some size room given index inside other

-- Writing everything that content defines over words that are all 0xFFFF lays out the content.
pub IsLaidOut-put : (content : Content) → 64 ≤ content.size → section_end content.triples ≤ content.size
    → IsLaidOut content (set (with_csr (fold put_word (replicate content.size 65535) content.words) content.triples) 63
    0)
IsLaidOut-put content long room =
    let blank = replicate content.size 65535 in
    let words = fold put_word blank content.words in
    let filled = length-replicate content.size 65535 in
    let size : length words ≡ content.size = length-put_words blank content.words ∙ filled in
    let given = λ (index : ℕ) (inside : index < content.size).
    word_at-put_words blank content.words index (omega arith)
    ∙ ap (λ v. value_after index v content.words) (get_or-replicate content.size index 65535 65535 inside) in
    let whole = length-with_csr words content.triples (omega arith) in
    record {
      size = length-set (with_csr words content.triples) 63 0 ∙ whole ∙ size;
      plain = laid_csr content words size long room given content.triples refl;
      zero = get_or-set_same (with_csr words content.triples) 63 0 65535 (omega arith);
    }
