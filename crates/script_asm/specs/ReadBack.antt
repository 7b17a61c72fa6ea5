-- The law of disassembly.
use Rattle.std.specs.Prelude.{◌≡◌, ◌<◌, Ok}
use Rattle.script_asm.specs.Prelude.{AllByRecursion, HaveWidths, IsListing, Listing, fields_of}
use Rattle.script_asm.specs.Disassembly.{text_of}
use Rattle.script_asm.specs.Script.{program_of}

-- A program's data strings consist of bytes, and the numbers in its instructions fit the fields of an object.
pub record HasWidths (program : Listing) : Type 0 where
  pub strings : AllByRecursion (AllByRecursion (λ byte. byte < 256)) program.strings
  pub instructions : AllByRecursion (λ i. HaveWidths (fields_of i)) program.instructions

-- A program's disassembled source assembles to the same program.
abbrev pub TextsReadBack : Type 0
TextsReadBack = (program : Listing) → IsListing program → HasWidths program → program_of (text_of program) ≡ Ok program
