-- The statuses of the calls that install an EEPROM image.
use Rattle.std.specs.Prelude.{ℕ, List, Option, Some, None, Result, Ok, Err, if◌then◌else◌}
use Rattle.std.specs.Str.{is_utf8}
use Rattle.nic_device.specs.EepromImage.Content.{Content}
use Rattle.nic_device.specs.EepromImage.Text.{sound_content}
use Rattle.nic_device.specs.EepromImage.declared.file.LoadFault.{LoadFault}
use Rattle.nic_device.specs.EepromImage.declared.file.LoadFault.TheVariants as load
use Rattle.nic_device.specs.EepromImage.declared.text.AsmFault.{AsmFault}
use Rattle.nic_device.specs.EepromImage.declared.text.AsmFault.TheVariants as text

-- The status for the fault of an image's file.
abbrev pub load_fault_status : LoadFault → ℕ
load_fault_status load.OddLength = 65
load_fault_status load.BadSize = 66
load_fault_status load.SectionOutside = 67
load_fault_status load.BadChecksum = 68
load_fault_status load.NotTriples = 69
load_fault_status load.OutOfMemory = 32

-- The status for a file with this fault, or without a fault.
abbrev pub load_status : Option LoadFault → ℕ
load_status None = 0
load_status (Some fault) = load_fault_status fault

-- The status for a fault in EEPROM source, and the fault's line or index.
abbrev pub text_fault_status : AsmFault → ℕ
text_fault_status (text.Syntax line) = 97
text_fault_status (text.TwoValues index) = 98
text_fault_status (text.Reserved index) = 99
text_fault_status text.DoesNotFit = 100
text_fault_status text.PointerOutside = 101
text_fault_status text.OutOfMemory = 32

abbrev pub line_of : AsmFault → ℕ
line_of (text.Syntax line) = line
line_of (text.TwoValues index) = index
line_of (text.Reserved index) = index
line_of text.DoesNotFit = 0
line_of text.PointerOutside = 0
line_of text.OutOfMemory = 0

-- The status and the line for EEPROM source, given its content or its fault.
abbrev pub content_status : Result Content AsmFault → ℕ
content_status (Ok content) = 0
content_status (Err fault) = text_fault_status fault

abbrev pub content_line : Result Content AsmFault → ℕ
content_line (Ok content) = 0
content_line (Err fault) = line_of fault

-- The status for bytes that should be EEPROM source, and the reported line or index.
abbrev pub text_status : List ℕ → ℕ
text_status bytes = if is_utf8 bytes then content_status (sound_content bytes) else 102

abbrev pub text_line : List ℕ → ℕ
text_line bytes = if is_utf8 bytes then content_line (sound_content bytes) else 0
