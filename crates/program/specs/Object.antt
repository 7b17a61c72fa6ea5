-- Objects: programs as bytes.
use Rattle.std.specs.Prelude.{ℕ, zero, suc, ◌≤◌, ◌+◌, ◌*◌, ◌==◌, ◌&&◌, not, nat_le, eqb, List, [], ◌∷◌, ◌++◌}
use Rattle.std.specs.Prelude.{length, map, take, drop, Option, Some, None, Result, Ok, Err, if◌then◌else◌}
use Rattle.std.specs.List.{flat_map, starts_with}
use Rattle.std.specs.Option.{ok_or, option_map}
use Rattle.std.specs.Int.{w16, w32, to_le_bytes}
use Rattle.program.specs.declared.fields.Fields.{Fields}
use Rattle.program.specs.declared.instruction.Instruction.{Instruction}
use Rattle.program.specs.declared.meaning.FieldFault.{FieldFault}
use Rattle.program.specs.declared.meaning.FieldFault.TheVariants as field
use Rattle.program.specs.declared.fault.ObjectFault.{ObjectFault}
use Rattle.program.specs.declared.fault.ObjectFault.TheVariants.{Magic, Version, Length, Opcode, Operand, Target}
use Rattle.program.specs.declared.reading.Header.{Header}
use Rattle.program.specs.Bytes.{number16_at, number32_at, bytes_of_fields, fields_in}
use Rattle.program.specs.Encoding.{fields_of}
use Rattle.program.specs.Listing.{Listing}
use Rattle.program.specs.Mapped.{◌then◌}
use Rattle.program.specs.Meaning.{meaning}

-- The first four bytes: `NBSC`.
abbrev pub magic : List ℕ
magic = 0x4e ∷ 0x42 ∷ 0x53 ∷ 0x43 ∷ []

-- The first six bytes of an object of version 1.
abbrev pub magic_and_version : List ℕ
magic_and_version = magic ++ 1 ∷ 0 ∷ []

-- The header: magic, version, number of instructions, number of data strings, 0, and total number of bytes.
abbrev pub header : ℕ → ℕ → ℕ → List ℕ
header count strings total =
    magic_and_version ++ to_le_bytes w16 count ++ to_le_bytes w16 strings ++ to_le_bytes w16 0 ++ to_le_bytes w32 total

-- A data string, preceded by its length.
abbrev pub bytes_of_string : List ℕ → List ℕ
bytes_of_string string = to_le_bytes w16 (length string) ++ string

-- A header, then the fields of the instructions, then the data strings.
unfoldable pub laid_out : List Fields → List (List ℕ) → List ℕ
laid_out all strings =
    let body = flat_map bytes_of_fields all ++ flat_map bytes_of_string strings in
    header (length all) (length strings) (16 + length body) ++ body

-- The object of a program.
abbrev pub object_of : Listing → List ℕ
object_of program = laid_out (map fields_of program.instructions) program.strings

-- The counts are within the limits, and the header and the instructions fit in the bytes.
pub record Fits (bytes : List ℕ) (h : Header) : Type 0 where
  pub few : h.count ≤ 4096
  pub few_strings : h.strings ≤ 1024
  pub inside : 16 + 12 * h.count ≤ length bytes

-- The counts of instructions and data strings, if the header and the instructions fit in the bytes.
abbrev pub counts_in : List ℕ → Result Header ObjectFault
counts_in bytes =
    if nat_le 16 (length bytes) && number16_at bytes 10 == 0 && number32_at bytes 12 == length bytes
    && nat_le (number16_at bytes 6) 4096 && nat_le (number16_at bytes 8) 1024
    && nat_le (16 + 12 * number16_at bytes 6) (length bytes)
    then Ok (record { count = number16_at bytes 6; strings = number16_at bytes 8 }) else Err Length

-- The counts in the header, or the header's first fault.
unfoldable pub header_in : List ℕ → Result Header ObjectFault
header_in bytes =
    if not (starts_with eqb bytes magic) then Err Magic
    else if not (starts_with eqb bytes magic_and_version) then Err Version else counts_in bytes

-- The first data string, of 1 to 16,384 bytes after its length, and the bytes after this data string. `None` if the
-- bytes don't start with such a data string.
unfoldable pub string_in : List ℕ → Option (List ℕ × List ℕ)
string_in bytes =
    let size = number16_at bytes 0 in
    if nat_le 1 size && nat_le size 16384 && nat_le (2 + size) (length bytes)
    then Some (take size (drop 2 bytes), drop size (drop 2 bytes)) else None

-- This data string, followed by the data strings in `more`.
abbrev pub before_strings : List ℕ → Option (List (List ℕ)) → Option (List (List ℕ))
before_strings string more = option_map (λ strings. string ∷ strings) more

-- This many data strings, which must fill the bytes exactly.
unfoldable pub strings_in : ℕ → List ℕ → Option (List (List ℕ))
strings_in zero [] = Some []
strings_in zero (byte ∷ bytes) = None
strings_in (suc count) bytes =
    elim (string_in bytes) [ None ↦ None | Some string ↦ before_strings string.0 (strings_in count string.1) ]

-- The fields of this many instructions, which are encoded one after the other.
unfoldable pub all_fields_in : ℕ → List ℕ → List Fields
all_fields_in zero bytes = []
all_fields_in (suc count) bytes = fields_in bytes ∷ all_fields_in count (drop 12 bytes)

-- The object's fault if the instruction with this number has this fault.
abbrev pub fault_at : ℕ → FieldFault → ObjectFault
fault_at pc field.Opcode = Opcode pc
fault_at pc field.Operand = Operand pc
fault_at pc field.Target = Target pc

-- The instruction with this number or, if it is faulty, its fault together with the number.
abbrev pub at_pc : {A : Type 0} → ℕ → Result A FieldFault → Result A ObjectFault
at_pc pc (Ok x) = Ok x
at_pc pc (Err fault) = Err (fault_at pc fault)

-- This instruction, followed by the instructions in `more`.
abbrev pub before_instructions : Instruction ℕ ℕ → Result (List (Instruction ℕ ℕ)) ObjectFault →
    Result (List (Instruction ℕ ℕ)) ObjectFault
before_instructions instruction more = more then λ instructions. Ok (instruction ∷ instructions)

-- The instructions that the fields encode, numbered starting at `pc`, or the first fault.
unfoldable pub meanings : List (List ℕ) → ℕ → ℕ → List Fields → Result (List (Instruction ℕ ℕ)) ObjectFault
meanings strings count pc [] = Ok []
meanings strings count pc (f ∷ more) =
    at_pc pc (meaning strings count f) then λ instruction.
    before_instructions instruction (meanings strings count (pc + 1) more)

-- The program with these data strings and the instructions that these fields encode, or its first fault.
abbrev pub program_of : List Fields → List (List ℕ) → Result Listing ObjectFault
program_of all strings =
    meanings strings (length all) 0 all then λ instructions.
    Ok (record { strings = strings; instructions = instructions })

-- The data strings that follow this many instructions.
abbrev pub strings_after : ℕ → ℕ → List ℕ → Result (List (List ℕ)) ObjectFault
strings_after count strings bytes = ok_or (strings_in strings (drop (16 + 12 * count) bytes)) Length

-- The program that the object encodes, or the object's first fault.
unfoldable pub read_of : List ℕ → Result Listing ObjectFault
read_of bytes =
    header_in bytes then λ h. strings_after h.count h.strings bytes then λ strings.
    meanings strings h.count 0 (all_fields_in h.count (drop 16 bytes)) then λ instructions.
    Ok (record { strings = strings; instructions = instructions })
