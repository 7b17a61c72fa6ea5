-- Lemmas about the sections of an image.
use Rattle.std.proofs.Common.{◌≡◌, ℕ, true, List, lit<}
use Rattle.std.proofs.lemmas.List.Sums.{AllPass-from_list_all}
use Rattle.eeprom_image.specs.Bytes.{word_at}
use Rattle.eeprom_image.specs.Section.{is_inside, pointers}
use Rattle.eeprom_image.specs.Image.{are_inside}

-- If each section is inside the image, the CSR section is inside the image.
pub csr_inside : (words : List ℕ) → are_inside words ≡ true → is_inside words (word_at words 13) ≡ true
unfolding pointers
csr_inside words h = (AllPass-from_list_all (is_inside words) (pointers words) h) 10 0 (lit< tt)
