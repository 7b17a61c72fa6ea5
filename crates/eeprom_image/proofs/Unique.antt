-- EEPROM source without a fault has exactly one image, and EEPROM source with a fault has no image.
use Rattle.std.proofs.Common.{◌≡◌, ℕ, ◌%◌, ◌<◌, true, List, length, set, fold, replicate, Option, Some, None, Result, Ok, Err, refl, sym, ap, ◌∙◌, inl, inr, arith, length-set, get_or-set_same, get_or-set_other}
use Rattle.std.specs.List.{list_all}
use Rattle.std.proofs.lemmas.List.{ext_get_or, set-get_or}
use Rattle.std.proofs.lemmas.Bool.{eqb-true}
use Rattle.std.proofs.lemmas.Bool.Decides.{eqb_tells}
use Rattle.eeprom_image.specs.Bytes.{word_at}
use Rattle.eeprom_image.specs.Section.{pointers}
use Rattle.eeprom_image.specs.Checksum.{checked_sum}
use Rattle.eeprom_image.specs.Content.{Content, content_of, ◌then◌}
use Rattle.eeprom_image.specs.Fault.{content_fault}
use Rattle.eeprom_image.specs.Text.{is_past, IsImageOf, checked_by, sound_content}
use Rattle.eeprom_image.specs.Layout.{put_word, with_csr, with_checksum, IsLaidOut}
use Rattle.eeprom_image.specs.declared.text.AsmFault.{AsmFault}
use Rattle.eeprom_image.proofs.LaidOut.{IsLaidOut-put}
use Rattle.eeprom_image.proofs.Checksums.{checked_sum-set}
use Rattle.eeprom_image.proofs.Contents.{IsContent, content_of-right}
use Rattle.eeprom_image.proofs.Faultless.{size_bounds, fits_end, sound_parts}
use Rattle.eeprom_image.proofs.Images.{IsImageOf-laid_out}
use Rattle.eeprom_image.proofs.ImageWords.{plain_of_image, size_of_image}
use Rattle.eeprom_image.proofs.Fitting.{few_triples, laid_out-fits}

same_checksum : (a b : List ℕ) (value : ℕ) → a ≡ set b 63 value → value < 65536 → word_at b 63 < 65536 → 63 < length b
    → list_all is_past (pointers b) ≡ true
    → checked_sum a % 65536 ≡ 0xBABA → checked_sum b % 65536 ≡ 0xBABA → value ≡ word_at b 63
same_checksum a b value same small small_b long after right right_b =
    let moved = checked_sum-set b value long after in
    let sums : checked_sum a ≡ checked_sum (set b 63 value) = ap checked_sum same in
    omega arith

-- Content has at most one image.
pub one_of_image : (content : Content) (a b : List ℕ) → IsImageOf content a → IsImageOf content b → a ≡ b
one_of_image content a b ha hb =
    let value = word_at a 63 in
    let sizes = size_of_image content a ha in
    let length_a = ha.size in
    let length_b = hb.size in
    let same : a ≡ set b 63 (word_at a 63) =
    ext_get_or 65535 a (set b 63 (word_at a 63)) (ha.size ∙ sym hb.size ∙ sym (length-set b 63 (word_at a 63)))
    (λ index there. elim (eqb_tells index 63) [
      | inl (t, here) ↦ ap (λ i. word_at a i) here
          ∙ sym (ap (λ i. word_at (set b 63 (word_at a 63)) i) here
          ∙ get_or-set_same b 63 (word_at a 63) 65535 (omega arith))
      | inr (t, other) ↦ plain_of_image content a ha index (omega arith) other
          ∙ sym (plain_of_image content b hb index (omega arith) other)
          ∙ sym (get_or-set_other b 63 index (word_at a 63) 65535 other)
    ]) in
    let checksum = same_checksum a b (word_at a 63) same (ha.image.fits 63) (hb.image.fits 63) (omega arith) hb.pointers
    (eqb-true (checked_sum a % 65536) 0xBABA ha.image.checksum)
    (eqb-true (checked_sum b % 65536) 0xBABA hb.image.checksum) in
    same ∙ ap (λ n. set b 63 n) checksum ∙ set-get_or b 63 65535

-- Laid-out words are the words of an image, except for the checksum.
pub image_of_laid_out : (content : Content) (words : List ℕ) → IsContent content → content_fault content ≡ None
    → IsLaidOut content words → IsImageOf content (with_checksum words)
image_of_laid_out content words right none laid =
    let bounds = size_bounds content.size right.size in
    let room = fits_end content (sound_parts content none).2 in
    IsImageOf-laid_out content words right none laid
    (laid_out-fits content words right (few_triples content.triples (omega arith)) laid)

-- Content without a fault has an image.
image_of_content : (content : Content) → IsContent content → content_fault content ≡ None
    → (words : List ℕ) × IsImageOf content words
image_of_content content right none =
    let bounds = size_bounds content.size right.size in
    let room = fits_end content (sound_parts content none).2 in
    let laid = IsLaidOut-put content bounds.0 room in
    let words = set (with_csr (fold put_word (replicate content.size 65535) content.words) content.triples) 63 0 in
    (with_checksum words, image_of_laid_out content words right none laid)

checked_is : (content other : Content) (fault : Option AsmFault) → checked_by content fault ≡ Ok other
    → (content ≡ other) × (fault ≡ None)
checked_is content other None h = (let e : content ≡ other = cc in e, refl)
checked_is content other (Some fault) h = absurd (let no : ⊥ = cc in no)

sound_is : (r : Result Content AsmFault) (content : Content) → (r then λ c. checked_by c (content_fault c)) ≡ Ok content
    → (r ≡ Ok content) × (content_fault content ≡ None)
sound_is (Ok c) content h = let parts = checked_is c content (content_fault c) h in
    (ap Ok parts.0, ap content_fault (sym parts.0) ∙ parts.1)
sound_is (Err fault) content h = absurd (let no : ⊥ = cc in no)

pub sound_content-parts : (text : List ℕ) (content : Content) → sound_content text ≡ Ok content
    → (content_of text ≡ Ok content) × (content_fault content ≡ None)
unfolding sound_content
sound_content-parts text content h = sound_is (content_of text) content h

pub sound_content-is : (text : List ℕ) (content : Content) → content_of text ≡ Ok content → content_fault content ≡ None
    → sound_content text ≡ Ok content
unfolding sound_content
sound_content-is text content given none = rw (given, none) refl

-- EEPROM source without a fault has exactly one image.
pub one_image_of : (text : List ℕ) (content : Content) → sound_content text ≡ Ok content
    → (words : List ℕ) × IsImageOf content words × ((others : List ℕ) → IsImageOf content others → others ≡ words)
one_image_of text content sound =
    let parts = sound_content-parts text content sound in
    let image = image_of_content content (content_of-right text content parts.0) parts.1 in
    (image.0, image.1, λ others other. one_of_image content others image.0 other image.1)
