-- The statement of a line's words.
use Rattle.std.specs.Prelude.{ℕ, ◌==◌, List, [], ◌∷◌, length, Option, Some, None, Result, Ok, Err, codes, if◌then◌else◌}
use Rattle.script_asm.specs.Prelude.{bytes_eq, hex_bytes_of, ok_or}
use Rattle.script_asm.specs.declared.faults.LineFault.{LineFault}
use Rattle.script_asm.specs.declared.faults.LineFault.TheVariants.{Syntax}
use Rattle.script_asm.specs.declared.statements.Statement.{Statement}
use Rattle.script_asm.specs.declared.statements.Statement.TheVariants.{Empty, Label, Data, Instruction}
use Rattle.script_asm.specs.Fault.{◌then◌, both}
use Rattle.script_asm.specs.Operation.{instruction_in}
use Rattle.script_asm.specs.Target.{name_in, before_last_byte}

-- The bytes that a word spells in hex, at least one.
abbrev pub bytes_in : List ℕ → Result (List ℕ) LineFault
bytes_in word = ok_or (hex_bytes_of word) Syntax then λ bytes. if length bytes == 0 then Err Syntax else Ok bytes

-- A label, which must be alone on its line: `NAME:`.
abbrev pub label_in : List ℕ → List (List ℕ) → Result Statement LineFault
label_in name [] = name_in name then λ label. Ok (Label label)
label_in name (a ∷ more) = Err Syntax

-- A name and its data: `data NAME HEX`.
abbrev pub data_in : List (List ℕ) → Result Statement LineFault
data_in [] = Err Syntax
data_in (a ∷ []) = Err Syntax
data_in (a ∷ b ∷ []) = both (name_in a) (bytes_in b) then λ found. Ok (Data found.0 found.1)
data_in (a ∷ b ∷ c ∷ more) = Err Syntax

-- The statement of a line with this first word. If the word ends in a colon, the line is a label, and `Some` contains
-- the name before the colon. Otherwise the word starts an instruction.
abbrev pub label_or_instruction : List ℕ → Option (List ℕ) → List (List ℕ) → Result Statement LineFault
label_or_instruction word (Some name) operands = label_in name operands
label_or_instruction word None operands = instruction_in word operands then λ instruction. Ok (Instruction instruction)

-- The statement of a line. A line without words is empty. Any other line defines data, is a label, or is an
-- instruction.
unfoldable pub statement_of : List (List ℕ) → Result Statement LineFault
statement_of [] = Ok Empty
statement_of (word ∷ operands) =
    if bytes_eq word (codes "data") then data_in operands
    else label_or_instruction word (before_last_byte 58 word) operands
