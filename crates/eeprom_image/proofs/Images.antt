-- If EEPROM source has no fault, its laid-out words with their checksum are its image.
use Rattle.std.proofs.Common.{◌≡◌, ◌≢◌, ℕ, ◌%◌, ◌<◌, Bool, true, false, nat_lt, nat_le, ◌==◌, ◌||◌, ◌&&◌, List, length, set, None, refl, sym, ap, ◌∙◌, inl, inr, arith, length-set, get_or-set_same, get_or-set_other}
use Rattle.std.specs.List.{list_all}
use Rattle.std.proofs.lemmas.List.{set_past}
use Rattle.std.proofs.lemmas.Bool.{and_parts, cases_lt, eq-eqb}
use Rattle.std.proofs.lemmas.Bool.Decides.{eqb_tells}
use Rattle.eeprom_image.specs.Bytes.{word_at}
use Rattle.eeprom_image.specs.Section.{pointers}
use Rattle.eeprom_image.specs.Checksum.{checked_sum}
use Rattle.eeprom_image.specs.Image.{is_size, are_inside}
use Rattle.eeprom_image.specs.Content.{Content}
use Rattle.eeprom_image.specs.Fault.{section_end, is_reserved, given_word, plain_word, content_fault}
use Rattle.eeprom_image.specs.Text.{is_past, IsImageOf}
use Rattle.eeprom_image.specs.Layout.{IsLaidOut, checksum_of, with_checksum}
use Rattle.eeprom_image.proofs.Checksums.{checked_sum-set}
use Rattle.eeprom_image.proofs.Pointers.{points_inside-is}
use Rattle.eeprom_image.proofs.Faultless.{sound_parts, size_bounds, fits_end}
use Rattle.eeprom_image.proofs.LaidTriples.{pointer_is, triples_laid}
use Rattle.eeprom_image.proofs.Contents.{IsContent}

or_false : (a b : Bool) → (a || b) ≡ false → (a ≡ false) × (b ≡ false)
or_false true b h = absurd (let no : ⊥ = cc in no)
or_false false b h = (refl, h)

-- A word that isn't reserved has the value that is defined for it.
pub plain_word-given : (content : Content) (index : ℕ) → is_reserved (section_end content.triples) index ≡ false
    → plain_word content index ≡ given_word content.words index
plain_word-given content index free =
    let outer = or_false ((index == 13) || (index == 63)) (nat_le 64 index
    && nat_lt index (section_end content.triples)) free in
    let inner = or_false (index == 13) (index == 63) outer.0 in
    rw (inner.0, outer.1) refl

fits_set : (words : List ℕ) (value : ℕ) → ((index : ℕ) → word_at words index < 65536) → value < 65536 → (index : ℕ)
    → word_at (set words 63 value) index < 65536
fits_set words value fit small index = elim (eqb_tells index 63) [
  | inl (t, at) ↦ elim (cases_lt 63 (length words)) [
    | inl long ↦ rw at (rw (get_or-set_same words 63 value 65535 long) small)
    | inr short ↦ rw (set_past words 63 value short) (fit index)
  ]
  | inr (t, other) ↦ rw (get_or-set_other words 63 index value 65535 other) (fit index)
]

not_checksum : (end index : ℕ) → is_reserved end index ≡ false → index ≢ 63
not_checksum end index free at =
    let outer = or_false ((index == 13) || (index == 63)) (nat_le 64 index && nat_lt index end) free in
    let inner = or_false (index == 13) (index == 63) outer.0 in
    let yes = eq-eqb index 63 at in
    let no : true ≡ false = sym yes ∙ inner.1 in
    cc

-- If content has no fault, its laid-out words with their checksum are its image.
pub IsImageOf-laid_out : (content : Content) (words : List ℕ) → IsContent content → content_fault content ≡ None
    → IsLaidOut content words
    → ((index : ℕ) → word_at words index < 65536) → IsImageOf content (with_checksum words)
IsImageOf-laid_out content words right none laid fit =
    let parts = sound_parts content none in
    let bounds = size_bounds content.size right.size in
    let room = fits_end content parts.2 in
    let sum = checked_sum words in
    let value = checksum_of words in
    let image = with_checksum words in
    let size : length image ≡ content.size = length-set words 63 value ∙ laid.size in
    let same = λ (index : ℕ) (inside : index < content.size) (other : index ≢ 63). get_or-set_other words 63 index value
    65535 other ∙ laid.plain index inside other in
    let points = and_parts (list_all is_past (pointers image)) (are_inside image)
    (sym (points_inside-is content image size same bounds.0) ∙ parts.3) in
    let points_before = and_parts (list_all is_past (pointers words)) (are_inside words)
    (sym (points_inside-is content words laid.size laid.plain bounds.0) ∙ parts.3) in
    let summed = checked_sum-set words value (omega (arith, laid.size)) points_before.0 in
    let zero_before = laid.zero in
    let total : checked_sum image % 65536 ≡ 0xBABA = omega arith in
    let triples = triples_laid content image size same bounds.0 bounds.1 room right.triples in
    record {
      once = parts.0;
      free = parts.1;
      inside = parts.2;
      image = record {
        size = ap is_size size ∙ right.size;
        fits = fits_set words value fit (omega arith);
        sections = points.1;
        checksum = eq-eqb (checked_sum image % 65536) 0xBABA total;
        triples = triples.1;
      };
      pointers = points.0;
      size = size;
      given = λ index inside free. same index inside (not_checksum (section_end content.triples) index free)
          ∙ plain_word-given content index free;
      pointer = pointer_is content image size same bounds.0 bounds.1 room;
      triples = triples.0;
    }
