-- The laws about objects.
use Rattle.std.specs.Prelude.{◌≡◌, ◌≤◌, ℕ, List, ◌∷◌, ◌++◌, length, map, Ok, Err}
use Rattle.std.specs.List.{AllByRecursion}
use Rattle.std.specs.Result.{IsOk}
use Rattle.program.specs.declared.fields.Fields.{Fields}
use Rattle.program.specs.declared.meaning.FieldFault.{FieldFault}
use Rattle.program.specs.Encoding.{HaveWidths, fields_of}
use Rattle.program.specs.Listing.{Listing, IsListing, IsDataString}
use Rattle.program.specs.Meaning.{meaning}
use Rattle.program.specs.Object.{laid_out, read_of, fault_at, program_of, object_of}

-- The instructions' fields and the data strings are within the limits.
pub record AreParts (all : List Fields) (strings : List (List ℕ)) : Type 0 where
  pub few : length all ≤ 4096
  pub few_strings : length strings ≤ 1024
  pub each : AllByRecursion IsDataString strings
  pub widths : AllByRecursion HaveWidths all

-- If an object is laid out from any fields and data strings within the limits, neither its header nor its length is
-- faulty. Only its instructions can be faulty.
abbrev pub InstructionsDecide : Type 0
InstructionsDecide =
    (all : List Fields) (strings : List (List ℕ)) → AreParts all strings →
    read_of (laid_out all strings) ≡ program_of all strings

-- If an instruction's fields are faulty and the fields before them all encode instructions, this fault is reported,
-- with the faulty instruction's number.
abbrev pub FirstFaultDecides : Type 0
FirstFaultDecides =
    (before : List Fields) (f : Fields) (after : List Fields) (strings : List (List ℕ)) (fault : FieldFault) →
    let all = before ++ f ∷ after in
    AreParts all strings → AllByRecursion (λ g. IsOk (meaning strings (length all) g)) before →
    meaning strings (length all) f ≡ Err fault → read_of (laid_out all strings) ≡ Err (fault_at (length before) fault)

-- Reading the object of a program returns the same program. Therefore two programs with equal objects are equal.
abbrev pub ObjectsReadBack : Type 0
ObjectsReadBack =
    (program : Listing) → IsListing program → AllByRecursion HaveWidths (map fields_of program.instructions) →
    read_of (object_of program) ≡ Ok program
