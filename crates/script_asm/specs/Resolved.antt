-- Instructions with their labels and their data by number.
use Rattle.std.specs.Prelude.{◌<◌, ◌≤◌, ℕ, ◌==◌, ◌++◌, List, [], ◌∷◌, length, ⊤, IfSome, Result, Ok, Err, if◌then◌else◌}
use Rattle.program.specs.declared.instruction.Instruction.TheVariants.{Write, Read, VfWrite, VfRead, Lend, Unlend, Poke}
use Rattle.program.specs.declared.instruction.Instruction.TheVariants.{Peek, Arrive, RxStep, TxStep, IntStep, QueueStep}
use Rattle.program.specs.declared.instruction.Instruction.TheVariants.{EepromStep, Link, Collect, Expect, And}
use Rattle.program.specs.declared.instruction.Instruction.TheVariants.{JumpIfEqual, JumpUnlessEqual, Jump, Halt}
use Rattle.program.specs.Listing.{string_at, IsDataString, IsFunction, IsGroup}
use Rattle.program.specs.Mapped.{try_map}
use Rattle.script_asm.specs.Prelude.{AllByRecursion, Instruction, ok_or}
use Rattle.script_asm.specs.declared.faults.ScriptFault.{ScriptFault}
use Rattle.script_asm.specs.declared.faults.ScriptFault.TheVariants.{UnknownLabel, Range}
use Rattle.script_asm.specs.declared.sheet.DraftLine.{DraftLine}
use Rattle.script_asm.specs.Fault.{◌then◌}
use Rattle.script_asm.specs.Operation.{Draft}
use Rattle.script_asm.specs.Outline.{Outline}
use Rattle.script_asm.specs.Places.{place_of}

-- The number of the label with this name, which this line refers to.
abbrev pub label_named : Outline → ℕ → List ℕ → Result ℕ ScriptFault
label_named outline line name = ok_or (place_of outline.labels name) (UnknownLabel line)

-- The number of the data string with this name, which this line refers to.
abbrev pub data_named : Outline → ℕ → List ℕ → Result ℕ ScriptFault
data_named outline line name = ok_or (place_of outline.data_numbers name) (UnknownLabel line)

-- The instruction, or `Range` if it pokes data that isn't 16 bytes long.
abbrev pub fitting : Outline → ℕ → Instruction ℕ ℕ → Result (Instruction ℕ ℕ) ScriptFault
fitting outline line (Poke address number) =
    if length (string_at outline.strings number) == 16 then Ok (Poke address number) else Err (Range line)
fitting outline line other = Ok other

-- The instruction of a line, with its label and its data by number.
abbrev pub resolved : Outline → ℕ → Draft → Result (Instruction ℕ ℕ) ScriptFault
resolved outline line draft =
    try_map (label_named outline line) (data_named outline line) draft then fitting outline line

-- The instructions in `before`, followed by the resolved instructions of these lines. If a line can't be resolved, the
-- fault of the first such line.
unfoldable pub with_resolved : Outline → List (Instruction ℕ ℕ) → List DraftLine
    → Result (List (Instruction ℕ ℕ)) ScriptFault
with_resolved outline before [] = Ok before
with_resolved outline before (d ∷ more) =
    resolved outline d.line d.draft then λ instruction. with_resolved outline (before ++ instruction ∷ []) more

-- The numbers written in a line are in range.
abbrev pub IsInRange : Draft → Type 0
IsInRange (Write address word) = ⊤
IsInRange (Read address) = ⊤
IsInRange (VfWrite function offset word) = IsFunction function
IsInRange (VfRead function offset) = IsFunction function
IsInRange (Lend block) = block < 65536
IsInRange (Unlend block) = block < 65536
IsInRange (Poke address name) = ⊤
IsInRange (Peek address word) = word < 4
IsInRange (Arrive name) = ⊤
IsInRange RxStep = ⊤
IsInRange (TxStep queue) = queue < 65536
IsInRange (IntStep group) = IsGroup group
IsInRange (QueueStep direction queue) = queue < 65536
IsInRange EepromStep = ⊤
IsInRange (Link up) = ⊤
IsInRange Collect = ⊤
IsInRange (Expect want mask) = ⊤
IsInRange (And word) = ⊤
IsInRange (JumpIfEqual word name) = ⊤
IsInRange (JumpUnlessEqual word name) = ⊤
IsInRange (Jump name) = ⊤
IsInRange Halt = ⊤

-- The lines are ready to be resolved to a program. Each label is at an instruction or at the end, each data number has
-- its data string, and all counts and numbers are in range.
pub record IsReady (outline : Outline) : Type 0 where
  pub few_drafts : length outline.drafts ≤ 4096
  pub few_strings : length outline.strings ≤ 1024
  pub labels : (name : List ℕ) → IfSome (place_of outline.labels name) (λ pc. pc ≤ length outline.drafts)
  pub data_numbers : (name : List ℕ)
      → IfSome (place_of outline.data_numbers name) (λ number. number < length outline.strings)
  pub strings : AllByRecursion IsDataString outline.strings
  pub drafts : AllByRecursion (λ d. IsInRange d.draft) outline.drafts
