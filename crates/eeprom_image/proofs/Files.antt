-- A file without a fault is an image's file, and an image's file has no fault.
use Rattle.std.proofs.Common.{◌≡◌, ℕ, ◌/◌, ◌%◌, ◌<◌, ◌==◌, Bool, true, false, not, cond, List, length, get_or, Option, Some, None, refl, sym, ap, ◌∙◌, arith}
use Rattle.std.proofs.lemmas.Bool.{eqb-true}
use Rattle.eeprom_image.specs.Bytes.{words_of, bytes_of}
use Rattle.eeprom_image.specs.Checksum.{is_checked}
use Rattle.eeprom_image.specs.Triples.{has_whole_triples}
use Rattle.eeprom_image.specs.Image.{IsImage, is_size, are_inside}
use Rattle.eeprom_image.specs.File.{file_fault, words_fault}
use Rattle.eeprom_image.specs.declared.file.LoadFault.{LoadFault}
use Rattle.eeprom_image.proofs.FileBytes.{length-words_of, length-bytes_of, words_of-bytes_of, bytes_of-words_of, words_of-fit}

passed : (b : Bool) (fault : LoadFault) (rest : Option LoadFault) → cond (not b) (Some fault) rest ≡ None
    → (b ≡ true) × (rest ≡ None)
passed true fault rest h = (refl, h)
passed false fault rest h = cc

words_pass : (words : List ℕ) → words_fault words ≡ None
    → (are_inside words ≡ true) × (is_checked words ≡ true) × (has_whole_triples words ≡ true)
words_pass words h =
    let sections = passed (are_inside words) _ _ h in
    let checksum = passed (is_checked words) _ _ sections.1 in
    let triples = passed (has_whole_triples words) _ _ checksum.1 in
    (sections.0, checksum.0, triples.0)

pub even_file : (bytes : List ℕ) → file_fault bytes ≡ None → length bytes % 2 ≡ 0
unfolding file_fault
even_file bytes h = eqb-true (length bytes % 2) 0 (passed ((length bytes % 2) == 0) _ _ h).0

pub image_from_file : (bytes : List ℕ) → ((i : ℕ) → get_or bytes i 0 < 256) → file_fault bytes ≡ None
    → IsImage (words_of bytes) × (bytes ≡ bytes_of (words_of bytes))
unfolding file_fault
image_from_file bytes fits h =
    let even = passed ((length bytes % 2) == 0) _ _ h in
    let size = passed (is_size (length bytes / 2)) _ _ even.1 in
    let words = words_pass (words_of bytes) size.1 in (
      record {
        size = ap is_size (length-words_of bytes) ∙ size.0;
        fits = words_of-fit bytes fits;
        sections = words.0;
        checksum = words.1;
        triples = words.2;
      },
      sym (bytes_of-words_of bytes (eqb-true (length bytes % 2) 0 even.0) fits),
    )

pub file_from_image : (words : List ℕ) → IsImage words
    → (file_fault (bytes_of words) ≡ None) × (words_of (bytes_of words) ≡ words)
unfolding file_fault
file_from_image words image =
    let same = words_of-bytes_of words image.fits in
    let even : length (bytes_of words) % 2 ≡ 0 = omega (arith, length-bytes_of words) in
    let half : length (bytes_of words) / 2 ≡ length words = omega (arith, length-bytes_of words) in
    (rw (even, half, same) (simp (image.size, image.sections, image.checksum, image.triples) refl), same)
