-- The program that a source means.
use Rattle.std.specs.Prelude.{ℕ, ◌&&◌, List, [], ◌∷◌, ◌++◌, length, is_some, Result, Ok, Err, nat_le, nat_lt}
use Rattle.std.specs.Prelude.{if◌then◌else◌}
use Rattle.script_asm.specs.Prelude.{Listing, NumberedLine, lines_of, words_of}
use Rattle.script_asm.specs.declared.faults.ScriptFault.{ScriptFault}
use Rattle.script_asm.specs.declared.faults.ScriptFault.TheVariants.{TwoLabels, TooLong}
use Rattle.script_asm.specs.declared.statements.Statement.{Statement}
use Rattle.script_asm.specs.declared.statements.Statement.TheVariants.{Empty, Label, Data, Instruction}
use Rattle.script_asm.specs.Fault.{◌then◌, at_line}
use Rattle.script_asm.specs.Operation.{Draft}
use Rattle.script_asm.specs.Outline.{Outline, blank}
use Rattle.script_asm.specs.Places.{place_of, with_place}
use Rattle.script_asm.specs.Resolved.{with_resolved}
use Rattle.script_asm.specs.Statement.{statement_of}

-- Adds a label at the next instruction. The label's name must be new among labels.
abbrev pub with_label : Outline → ℕ → List ℕ → Result Outline ScriptFault
with_label before line name =
    if is_some (place_of before.labels name) then Err (TwoLabels line)
    else Ok (record before { labels = with_place before.labels name (length before.drafts) })

-- Adds a data string. The string's name must be new among data names. There are at most 1,024 data strings, of at most
-- 16,384 bytes each.
abbrev pub with_data : Outline → ℕ → List ℕ → List ℕ → Result Outline ScriptFault
with_data before line name string =
    if is_some (place_of before.data_numbers name) then Err (TwoLabels line)
    else if nat_le (length string) 16384 && nat_lt (length before.strings) 1024
    then Ok (record before {
      data_numbers = with_place before.data_numbers name (length before.strings);
      strings = before.strings ++ string ∷ [];
    })
    else Err TooLong

-- Adds an instruction. There are at most 4,096 instructions.
abbrev pub with_draft : Outline → ℕ → Draft → Result Outline ScriptFault
with_draft before line draft =
    if nat_lt (length before.drafts) 4096
    then Ok (record before { drafts = before.drafts ++ record { line = line; draft = draft } ∷ [] })
    else Err TooLong

-- Adds the statement of the line with this number.
abbrev pub with_statement : Outline → ℕ → Statement → Result Outline ScriptFault
with_statement before line Empty = Ok before
with_statement before line (Label name) = with_label before line name
with_statement before line (Data name string) = with_data before line name string
with_statement before line (Instruction draft) = with_draft before line draft

-- Adds one more line.
abbrev pub with_line : Outline → NumberedLine → Result Outline ScriptFault
with_line before line = at_line line.number (statement_of (words_of line.text))
    then λ statement. with_statement before line.number statement

-- Adds these lines. The first faulty line determines the fault.
unfoldable pub with_lines : Outline → List NumberedLine → Result Outline ScriptFault
with_lines before [] = Ok before
with_lines before (line ∷ more) = with_line before line then λ after. with_lines after more

-- The program that the contents of all lines form, or its fault.
abbrev pub program_in : Outline → Result Listing ScriptFault
program_in outline =
    with_resolved outline [] outline.drafts
    then λ instructions. Ok (record { strings = outline.strings; instructions = instructions })

-- The program that these lines form, or their fault.
abbrev pub program_of_lines : List NumberedLine → Result Listing ScriptFault
program_of_lines lines = with_lines blank lines then program_in

-- The program that a source means, or its fault.
unfoldable pub program_of : List ℕ → Result Listing ScriptFault
program_of text = program_of_lines (lines_of text)
