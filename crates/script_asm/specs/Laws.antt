-- Laws of the script language.
use Rattle.std.specs.Prelude.{◌≡◌, ◌↔◌, ◌⊎◌, ⊤, ℕ, ◌+◌, true, ◌<◌, ◌≤◌, List, [], ◌∷◌, ◌++◌, length, map, Option, Some}
use Rattle.std.specs.Prelude.{None, is_some, Result, Ok, Err, if◌then◌else◌}
use Rattle.program.specs.declared.instruction.Instruction.{Instruction as Step}
use Rattle.program.specs.declared.instruction.Instruction.TheVariants.{Write, Read, VfWrite, VfRead, Lend, Unlend, Poke}
use Rattle.program.specs.declared.instruction.Instruction.TheVariants.{Peek, Arrive, RxStep, TxStep, IntStep, QueueStep}
use Rattle.program.specs.declared.instruction.Instruction.TheVariants.{EepromStep, Link, Collect, Expect, And}
use Rattle.program.specs.declared.instruction.Instruction.TheVariants.{JumpIfEqual, JumpUnlessEqual, Jump, Halt}
use Rattle.script_asm.specs.Prelude.{Listing, NumberedLine, bytes_eq, lines_of, string_at, words_of}
use Rattle.script_asm.specs.declared.faults.LineFault.{LineFault}
use Rattle.script_asm.specs.declared.faults.LineFault.TheVariants as line
use Rattle.script_asm.specs.declared.faults.ScriptFault.{ScriptFault}
use Rattle.script_asm.specs.declared.faults.ScriptFault.TheVariants.{TwoLabels}
use Rattle.script_asm.specs.declared.sheet.DraftLine.{DraftLine}
use Rattle.script_asm.specs.declared.statements.Statement.{Statement}
use Rattle.script_asm.specs.declared.statements.Statement.TheVariants.{Empty, Label, Data, Instruction}
use Rattle.script_asm.specs.Fault.{both, fault_at}
use Rattle.script_asm.specs.Operation.{Draft}
use Rattle.script_asm.specs.Outline.{Outline, blank}
use Rattle.script_asm.specs.Places.{place_of}
use Rattle.script_asm.specs.Resolved.{resolved, with_resolved}
use Rattle.script_asm.specs.Script.{with_line, with_lines, program_of}
use Rattle.script_asm.specs.Statement.{statement_of}

-- The meaning of a line by itself.
abbrev pub reading_of : NumberedLine → Result Statement LineFault
reading_of line = statement_of (words_of line.text)

-- The lines mean these statements, one for each line.
abbrev pub Say : List NumberedLine → List Statement → Type 0
Say lines statements = map reading_of lines ≡ map Ok statements

-- The data strings among statements.
abbrev pub strings_in : List Statement → List (List ℕ)
strings_in [] = []
strings_in (Empty ∷ more) = strings_in more
strings_in (Label name ∷ more) = strings_in more
strings_in (Data name string ∷ more) = string ∷ strings_in more
strings_in (Instruction draft ∷ more) = strings_in more

-- The instructions among statements.
abbrev pub drafts_in : List Statement → List Draft
drafts_in [] = []
drafts_in (Empty ∷ more) = drafts_in more
drafts_in (Label name ∷ more) = drafts_in more
drafts_in (Data name string ∷ more) = drafts_in more
drafts_in (Instruction draft ∷ more) = draft ∷ drafts_in more

-- The number of the first label with this name among statements, if instructions are numbered starting at `first`.
abbrev pub label_from : ℕ → List Statement → List ℕ → Option ℕ
label_from first [] name = None
label_from first (Empty ∷ more) name = label_from first more name
label_from first (Label label ∷ more) name = if bytes_eq label name then Some first else label_from first more name
label_from first (Data other string ∷ more) name = label_from first more name
label_from first (Instruction draft ∷ more) name = label_from (first + 1) more name

-- The number of the first data string with this name among statements, if data strings are numbered starting at
-- `first`.
abbrev pub data_from : ℕ → List Statement → List ℕ → Option ℕ
data_from first [] name = None
data_from first (Empty ∷ more) name = data_from first more name
data_from first (Label label ∷ more) name = data_from first more name
data_from first (Data other string ∷ more) name =
    if bytes_eq other name then Some first else data_from (first + 1) more name
data_from first (Instruction draft ∷ more) name = data_from first more name

-- A statement fits after others. A label's name is new among labels, and a data string's name is new among data names.
-- A data string is at most 16,384 bytes long and is preceded by fewer than 1,024 data strings. An instruction is
-- preceded by fewer than 4,096 instructions.
abbrev pub FitsAfter : List Statement → Statement → Type 0
FitsAfter before Empty = ⊤
FitsAfter before (Label name) = label_from 0 before name ≡ None
FitsAfter before (Data name string) = (data_from 0 before name ≡ None) × (length string ≤ 16384)
    × (length (strings_in before) < 1024)
FitsAfter before (Instruction draft) = length (drafts_in before) < 4096

-- Each statement fits after the statements before it.
abbrev pub Fit : List Statement → List Statement → Type 0
Fit before [] = ⊤
Fit before (statement ∷ more) = FitsAfter before statement × Fit (before ++ statement ∷ []) more

-- The program's instruction for an instruction as written in a line. Numbers replace the names of labels and data
-- strings. These names must be defined, and poked data must be 16 bytes long.
abbrev pub Means : (List ℕ → Option ℕ) → (List ℕ → Option ℕ) → List (List ℕ) → Draft → Step ℕ ℕ → Type 0
Means labels names strings (Write address word) i = i ≡ Write address word
Means labels names strings (Read address) i = i ≡ Read address
Means labels names strings (VfWrite function offset word) i = i ≡ VfWrite function offset word
Means labels names strings (VfRead function offset) i = i ≡ VfRead function offset
Means labels names strings (Lend block) i = i ≡ Lend block
Means labels names strings (Unlend block) i = i ≡ Unlend block
Means labels names strings (Poke address name) i =
    (number : ℕ) × (i ≡ Poke address number) × (names name ≡ Some number) × (length (string_at strings number) ≡ 16)
Means labels names strings (Peek address word) i = i ≡ Peek address word
Means labels names strings (Arrive name) i = (number : ℕ) × (i ≡ Arrive number) × (names name ≡ Some number)
Means labels names strings RxStep i = i ≡ RxStep
Means labels names strings (TxStep queue) i = i ≡ TxStep queue
Means labels names strings (IntStep group) i = i ≡ IntStep group
Means labels names strings (QueueStep direction queue) i = i ≡ QueueStep direction queue
Means labels names strings EepromStep i = i ≡ EepromStep
Means labels names strings (Link up) i = i ≡ Link up
Means labels names strings Collect i = i ≡ Collect
Means labels names strings (Expect want mask) i = i ≡ Expect want mask
Means labels names strings (And word) i = i ≡ And word
Means labels names strings (JumpIfEqual word name) i = (pc : ℕ) × (i ≡ JumpIfEqual word pc) × (labels name ≡ Some pc)
Means labels names strings (JumpUnlessEqual word name) i = (pc : ℕ) × (i ≡ JumpUnlessEqual word pc)
    × (labels name ≡ Some pc)
Means labels names strings (Jump name) i = (pc : ℕ) × (i ≡ Jump pc) × (labels name ≡ Some pc)
Means labels names strings Halt i = i ≡ Halt

-- The program's instructions for instructions as written in lines, in order.
abbrev pub Mean : (List ℕ → Option ℕ) → (List ℕ → Option ℕ) → List (List ℕ) → List Draft → List (Step ℕ ℕ) → Type 0
Mean labels names strings [] [] = ⊤
Mean labels names strings [] (i ∷ is) = ⊥
Mean labels names strings (draft ∷ drafts) [] = ⊥
Mean labels names strings (draft ∷ drafts) (i ∷ is) = Means labels names strings draft i
    × Mean labels names strings drafts is

-- The statements of the source's lines fit and form the program.
pub record IsSaid (text : List ℕ) (program : Listing) : Type 0 where
  pub statements : List Statement
  pub say : Say (lines_of text) statements
  pub fit : Fit [] statements
  pub strings : program.strings ≡ strings_in statements
  pub mean : Mean (label_from 0 statements) (data_from 0 statements) (strings_in statements) (drafts_in statements)
      program.instructions

-- A source means a program exactly if each of its lines is a statement, the statements fit, and they form the program.
abbrev pub ProgramIsWhatLinesSay : Type 0
ProgramIsWhatLinesSay = (text : List ℕ) (program : Listing) → (program_of text ≡ Ok program) ↔ IsSaid text program

-- The statements before a label or a data string determine its number.
pub record NamesHaveTheirPlaces : Type 0 where
  -- The number of the first label with a name is the count of instructions before it. The number of the first data
  -- string with a name is the count of data strings before it.
  pub label : (before after : List Statement) (name : List ℕ) → label_from 0 before name ≡ None
      → label_from 0 (before ++ Label name ∷ after) name ≡ Some (length (drafts_in before))
  pub «data» : (before after : List Statement) (name string : List ℕ) → data_from 0 before name ≡ None
      → data_from 0 (before ++ Data name string ∷ after) name ≡ Some (length (strings_in before))
  -- A name has a number only if a statement defines the name.
  pub given_label : (statements : List Statement) (name : List ℕ) (place : ℕ)
      → label_from 0 statements name ≡ Some place
      → (before : List Statement) × (after : List Statement) × (statements ≡ before ++ Label name ∷ after)
  pub given_data : (statements : List Statement) (name : List ℕ) (number : ℕ)
      → data_from 0 statements name ≡ Some number
      → (before : List Statement) × (string : List ℕ) × (after : List Statement)
      × (statements ≡ before ++ Data name string ∷ after)

-- The first fault of a source is reported.
pub record FirstFaultDecides : Type 0 where
  -- A faulty line's fault is reported if all lines before that line are read without a fault.
  pub lines : (text : List ℕ) (front : List NumberedLine) (line : NumberedLine) (back : List NumberedLine)
      (outline : Outline) (fault : ScriptFault)
      → lines_of text ≡ front ++ line ∷ back → with_lines blank front ≡ Ok outline
      → with_line outline line ≡ Err fault → program_of text ≡ Err fault
  -- If no line is faulty, the fault of the first instruction that can't be resolved is reported. Its label or data name
  -- isn't defined, or its data can't be poked.
  pub names : (text : List ℕ) (outline : Outline) (front : List DraftLine) (d : DraftLine) (back : List DraftLine)
      (instructions : List (Step ℕ ℕ)) (fault : ScriptFault)
      → with_lines blank (lines_of text) ≡ Ok outline → outline.drafts ≡ front ++ d ∷ back
      → with_resolved outline [] front ≡ Ok instructions
      → resolved outline d.line d.draft ≡ Err fault → program_of text ≡ Err fault

-- The order in which a line's faults are reported.
abbrev pub rank : LineFault → ℕ
rank line.Syntax = 0
rank line.UnknownName = 1
rank line.Range = 2
rank line.TooLong = 3

-- At least one of two operands has the fault.
abbrev pub OneHas : {A B : Type 0} → Result A LineFault → Result B LineFault → LineFault → Type 0
OneHas a b fault = (a ≡ Err fault) ⊎ (b ≡ Err fault)

-- A line's faults are reported in order.
pub record FaultsComeInOrder : Type 0 where
  -- The fault that is reported for two operands is a fault of at least one operand. Neither operand has a fault with a
  -- lower rank.
  pub operands : (a b : Result ℕ LineFault) (fault : LineFault) → both a b ≡ Err fault
      → OneHas a b fault × ((other : LineFault) → OneHas a b other → rank fault ≤ rank other)
  -- A line's own fault is reported, whatever the lines before it are.
  pub lines : (before : Outline) (line : NumberedLine) (fault : LineFault) → reading_of line ≡ Err fault
      → with_line before line ≡ Err (fault_at line.number fault)
  -- A name that is defined twice is reported for a line without a fault of its own, even if the line exceeds a limit.
  pub labels : (before : Outline) (line : NumberedLine) (name : List ℕ) → reading_of line ≡ Ok (Label name)
      → is_some (place_of before.labels name) ≡ true
      → with_line before line ≡ Err (TwoLabels line.number)
  pub «data» : (before : Outline) (line : NumberedLine) (name string : List ℕ)
      → reading_of line ≡ Ok (Data name string) → is_some (place_of before.data_numbers name) ≡ true
      → with_line before line ≡ Err (TwoLabels line.number)
