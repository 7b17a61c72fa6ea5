-- Whether bytes are an image's file.
use Rattle.std.specs.Prelude.{ℕ, ◌%◌, ◌/◌, ◌==◌, not, if◌then◌else◌, List, length, Option, Some, None}
use Rattle.eeprom_image.specs.Bytes.{words_of}
use Rattle.eeprom_image.specs.Image.{is_size, are_inside}
use Rattle.eeprom_image.specs.Checksum.{is_checked}
use Rattle.eeprom_image.specs.Triples.{has_whole_triples}
use Rattle.eeprom_image.specs.declared.file.LoadFault.{LoadFault}
use Rattle.eeprom_image.specs.declared.file.LoadFault.TheVariants.{OddLength, BadSize, SectionOutside, BadChecksum, NotTriples, OutOfMemory}

-- The first fault in words whose number is a valid size.
abbrev pub words_fault : List ℕ → Option LoadFault
words_fault words =
    if not (are_inside words) then Some SectionOutside else
    if not (is_checked words) then Some BadChecksum else
    if not (has_whole_triples words) then Some NotTriples else None

-- The first fault in a file, in the order of the list of faults; `None` if the file has no fault.
unfoldable pub file_fault : List ℕ → Option LoadFault
file_fault bytes =
    if not ((length bytes % 2) == 0) then Some OddLength else
    if not (is_size (length bytes / 2)) then Some BadSize else words_fault (words_of bytes)

-- The file's fault if this error is returned. `OutOfMemory` is returned only for a file without a fault.
abbrev pub reported_fault : LoadFault → Option LoadFault
reported_fault OutOfMemory = None
reported_fault OddLength = Some OddLength
reported_fault BadSize = Some BadSize
reported_fault SectionOutside = Some SectionOutside
reported_fault BadChecksum = Some BadChecksum
reported_fault NotTriples = Some NotTriples
