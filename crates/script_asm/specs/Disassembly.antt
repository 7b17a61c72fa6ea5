-- The source of a program.
use Rattle.std.specs.Prelude.{ℕ, ◌+◌, ◌==◌, ◌++◌, Bool, false, List, [], ◌∷◌, codes, decimal, if◌then◌else◌}
use Rattle.program.specs.declared.instruction.Instruction.TheVariants.{JumpIfEqual, JumpUnlessEqual, Jump}
use Rattle.script_asm.specs.Prelude.{Instruction, Listing, bytes_text, list_any}
use Rattle.script_asm.specs.Printing.{instruction_text}

-- The line that defines a data string, which is named `d` and its number.
abbrev pub data_line : ℕ → List ℕ → List ℕ
data_line number string = codes "data d" ++ (decimal number ++ (codes " " ++ (bytes_text string ++ 10 ∷ [])))

-- The lines that define data strings, which are numbered starting at `number`.
unfoldable pub data_lines : ℕ → List (List ℕ) → List ℕ
data_lines number [] = []
data_lines number (string ∷ more) = data_line number string ++ data_lines (number + 1) more

-- Whether an instruction jumps to the instruction with this number.
abbrev pub jumps_to : ℕ → Instruction ℕ ℕ → Bool
jumps_to pc (JumpIfEqual word target) = target == pc
jumps_to pc (JumpUnlessEqual word target) = target == pc
jumps_to pc (Jump target) = target == pc
jumps_to pc other = false

-- Whether one of the instructions jumps to this instruction number.
abbrev pub is_target : List (Instruction ℕ ℕ) → ℕ → Bool
is_target code pc = list_any (jumps_to pc) code

-- The line of an instruction's label: `L` and its number.
abbrev pub label_line : ℕ → List ℕ
label_line pc = codes "L" ++ (decimal pc ++ 58 ∷ 10 ∷ [])

-- The label line for this instruction number if an instruction jumps to it; otherwise nothing.
abbrev pub label_line_at : List (Instruction ℕ ℕ) → ℕ → List ℕ
label_line_at code pc = if is_target code pc then label_line pc else []

-- The line of an instruction, preceded by the line of its label if it has one.
abbrev pub code_line : List (Instruction ℕ ℕ) → ℕ → Instruction ℕ ℕ → List ℕ
code_line code pc instruction = label_line_at code pc ++ (instruction_text instruction ++ 10 ∷ [])

-- The lines of instructions, which are numbered starting at `pc`, and a label after the last one if an instruction
-- jumps there.
unfoldable pub code_lines : List (Instruction ℕ ℕ) → ℕ → List (Instruction ℕ ℕ) → List ℕ
code_lines code pc [] = label_line_at code pc
code_lines code pc (instruction ∷ more) = code_line code pc instruction ++ code_lines code (pc + 1) more

-- The source of a program: its data strings, then its instructions.
unfoldable pub text_of : Listing → List ℕ
text_of program = data_lines 0 program.strings ++ code_lines program.instructions 0 program.instructions
