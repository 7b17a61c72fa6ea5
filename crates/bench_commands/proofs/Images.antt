-- Lemmas about the answers to EEPROM source and to images.
use Rattle.std.proofs.Common.{refl, sym, ap, ◌∙◌, ◌≡◌, ◌≢◌, ℕ, List, Option, Some, None, Result, Ok, Err, IsOkAnd}
use Rattle.nic_device.specs.EepromImage.Bytes.{bytes_of}
use Rattle.nic_device.specs.EepromImage.Content.{Content}
use Rattle.nic_device.specs.EepromImage.File.{reported_fault}
use Rattle.nic_device.specs.EepromImage.Image.{IsImage}
use Rattle.nic_device.specs.EepromImage.Text.{Fails, IsImageOf}
use Rattle.nic_device.specs.EepromImage.Triples.{triples_of}
use Rattle.nic_device.specs.EepromImage.declared.AsmFault.{AsmFault}
use Rattle.nic_device.specs.EepromImage.declared.AsmFault.TheVariants as text
use Rattle.nic_device.specs.EepromImage.declared.LoadFault.{LoadFault}
use Rattle.nic_device.specs.EepromImage.declared.LoadFault.TheVariants as file
use Rattle.bench_commands.specs.Answer.{Answer}
use Rattle.bench_commands.specs.Eeprom.{IsFileAnswer, IsMeantAnswer, file_refused, text_refused, triples_answer}

-- The answer to source without a fault is the file of its image.
pub image-meant : (meant : Result Content AsmFault) (image : List ℕ)
    → IsOkAnd meant (λ content. IsImageOf content image)
    → IsMeantAnswer meant (record { text = bytes_of image; status = 0 })
image-meant (Ok content) image is = (image, is, refl)
image-meant (Err fault) image is = absurd is

fails-by : (fault : AsmFault) (meant : Result Content AsmFault) → fault ≢ text.OutOfMemory → Fails fault meant
    → meant ≡ Err fault
fails-by text.OutOfMemory meant other fails = absurd (other refl)
fails-by (text.Syntax line) meant other fails = fails
fails-by (text.TwoValues index) meant other fails = fails
fails-by (text.Reserved index) meant other fails = fails
fails-by text.DoesNotFit meant other fails = fails
fails-by text.PointerOutside meant other fails = fails

-- The only answer to faulty source is the refusal for its fault.
pub fault-meant : (fault : AsmFault) (meant : Result Content AsmFault) → fault ≢ text.OutOfMemory → Fails fault meant
    → IsMeantAnswer meant (text_refused fault)
    × ((answer : Answer) → IsMeantAnswer meant answer → answer ≡ text_refused fault)
fault-meant fault meant other fails = rw (fails-by fault meant other fails) (refl, λ answer is. is)

reported : (fault : LoadFault) → fault ≢ file.OutOfMemory → reported_fault fault ≡ Some fault
reported file.OutOfMemory other = absurd (other refl)
reported file.OddLength other = refl
reported file.BadSize other = refl
reported file.SectionOutside other = refl
reported file.BadChecksum other = refl
reported file.NotTriples other = refl

-- The only answer to a faulty file is the refusal for its fault.
pub fault-of-file : (fault : LoadFault) (first : Option LoadFault) (bytes : List ℕ) → fault ≢ file.OutOfMemory
    → first ≡ reported_fault fault
    → IsFileAnswer first bytes (file_refused fault)
    × ((answer : Answer) → IsFileAnswer first bytes answer → answer ≡ file_refused fault)
fault-of-file fault first bytes other is = rw (is ∙ reported fault other) (refl, λ answer same. same)

-- The only answer to an image's file is the list of the image's register writes.
pub triples-of-file : (first : Option LoadFault) (bytes image : List ℕ) → first ≡ None → IsImage image
    → bytes ≡ bytes_of image
    → ((words : List ℕ) → IsImage words → bytes ≡ bytes_of words → image ≡ words)
    → IsFileAnswer first bytes (triples_answer (triples_of image))
    × ((answer : Answer) → IsFileAnswer first bytes answer → answer ≡ triples_answer (triples_of image))
triples-of-file first bytes image none is file only = rw none (
  (image, is, file, refl),
  λ answer right. right.3 ∙ ap (λ (words : List ℕ). triples_answer (triples_of words))
      (sym (only right.0 right.1 right.2)),
)
