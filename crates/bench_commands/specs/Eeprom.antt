-- The output of `nicbench eeprom`.
use Rattle.std.specs.Prelude.{◌≡◌, ℕ, List, ◌++◌, Option, Some, None, Result, Ok, Err, codes}
use Rattle.std.specs.List.{flat_map}
use Rattle.nic_device.specs.EepromImage.Bytes.{bytes_of}
use Rattle.nic_device.specs.EepromImage.Content.{Content}
use Rattle.nic_device.specs.EepromImage.File.{file_fault}
use Rattle.nic_device.specs.EepromImage.Image.{IsImage}
use Rattle.nic_device.specs.EepromImage.Text.{IsImageOf, sound_content}
use Rattle.nic_device.specs.EepromImage.Triples.{triples_of}
use Rattle.nic_device.specs.EepromImage.declared.AsmFault.{AsmFault}
use Rattle.nic_device.specs.EepromImage.declared.AsmFault.TheVariants as text
use Rattle.nic_device.specs.EepromImage.declared.LoadFault.{LoadFault}
use Rattle.nic_device.specs.EepromImage.declared.LoadFault.TheVariants as file
use Rattle.text_format.specs.Word.{address_text, word_text}
use Rattle.bench_commands.specs.Answer.{Answer, refused_as, refused_at}

-- The refusal for EEPROM source that doesn't describe an image.
abbrev pub text_refused : AsmFault → Answer
text_refused (text.Syntax line) = refused_at (codes "Syntax") line
text_refused (text.TwoValues index) = refused_at (codes "TwoValues") index
text_refused (text.Reserved index) = refused_at (codes "Reserved") index
text_refused text.DoesNotFit = refused_as (codes "DoesNotFit")
text_refused text.PointerOutside = refused_as (codes "PointerOutside")
text_refused text.OutOfMemory = refused_as (codes "OutOfMemory")

-- The refusal for bytes that aren't an image.
abbrev pub file_refused : LoadFault → Answer
file_refused file.OddLength = refused_as (codes "OddLength")
file_refused file.BadSize = refused_as (codes "BadSize")
file_refused file.SectionOutside = refused_as (codes "SectionOutside")
file_refused file.BadChecksum = refused_as (codes "BadChecksum")
file_refused file.NotTriples = refused_as (codes "NotTriples")
file_refused file.OutOfMemory = refused_as (codes "OutOfMemory")

-- The answer is the file of the image with this content, or the refusal for the source's fault.
abbrev pub IsMeantAnswer : Result Content AsmFault → Answer → Type 0
IsMeantAnswer (Ok content) answer =
    (words : List ℕ) × IsImageOf content words × (answer ≡ record { text = bytes_of words; status = 0 })
IsMeantAnswer (Err fault) answer = answer ≡ text_refused fault

abbrev pub IsImageAnswer : List ℕ → Answer → Type 0
IsImageAnswer text answer = IsMeantAnswer (sound_content text) answer

-- A register write on its own line: the register's byte offset, and the value to write.
abbrev pub triple_line : ℕ × ℕ → List ℕ
triple_line triple = codes "csr " ++ (address_text triple.0 ++ (codes " " ++ (word_text triple.1 ++ codes "\n")))

-- A line for each register write.
abbrev pub triples_answer : List (ℕ × ℕ) → Answer
triples_answer triples = record { text = flat_map triple_line triples; status = 0 }

-- The answer lists the register writes in the image with this file, or is the refusal for the file's fault.
abbrev pub IsFileAnswer : Option LoadFault → List ℕ → Answer → Type 0
IsFileAnswer None bytes answer =
    (words : List ℕ) × IsImage words × (bytes ≡ bytes_of words) × (answer ≡ triples_answer (triples_of words))
IsFileAnswer (Some fault) bytes answer = answer ≡ file_refused fault

abbrev pub IsLoadAnswer : List ℕ → Answer → Type 0
IsLoadAnswer bytes answer = IsFileAnswer (file_fault bytes) bytes answer
