-- The contents of a program.
use Rattle.std.specs.Prelude.{◌≡◌, ◌<◌, ◌≤◌, ℕ, List, [], length, slice_index_or, ⊤}
use Rattle.std.specs.List.{AllByRecursion}
use Rattle.intr_unit.specs.declared.Group.{Group}
use Rattle.intr_unit.specs.declared.Group.TheVariants.{Pf, Vf}
use Rattle.program.specs.declared.instruction.Instruction.{Instruction}
use Rattle.program.specs.declared.instruction.Instruction.TheVariants.{Write, Read, VfWrite, VfRead, Lend, Unlend}
use Rattle.program.specs.declared.instruction.Instruction.TheVariants.{Poke, Peek, Arrive, RxStep, TxStep, IntStep}
use Rattle.program.specs.declared.instruction.Instruction.TheVariants.{QueueStep, EepromStep, Link, Collect, Expect}
use Rattle.program.specs.declared.instruction.Instruction.TheVariants.{And, JumpIfEqual, JumpUnlessEqual, Jump, Halt}

-- The data strings and the instructions of a program, both in order. Instructions refer to data strings and to
-- instructions by number.
pub record Listing : Type 0 where
  pub strings : List (List ℕ)
  pub instructions : List (Instruction ℕ ℕ)

-- The data string with this number, or the empty list if no data string has this number.
abbrev pub string_at : List (List ℕ) → ℕ → List ℕ
string_at strings number = slice_index_or strings number []

-- Virtual functions are numbered below 63.
abbrev pub IsFunction : ℕ → Type 0
IsFunction function = function < 63

-- An interrupt group belongs to the physical function or to a virtual function below 63.
abbrev pub IsGroup : Group → Type 0
IsGroup Pf = ⊤
IsGroup (Vf function) = IsFunction function

-- Everything to which the instruction refers exists in a program with these data strings and this many instructions. A
-- poked data string is 16 bytes long, an arriving data string exists, and a peek selects one of four words. Virtual
-- functions are below 63. A jump's target is an instruction or the end. Block and queue numbers are below 65,536.
abbrev pub IsSound : List (List ℕ) → ℕ → Instruction ℕ ℕ → Type 0
IsSound strings count (Write address word) = ⊤
IsSound strings count (Read address) = ⊤
IsSound strings count (VfWrite function offset word) = IsFunction function
IsSound strings count (VfRead function offset) = IsFunction function
IsSound strings count (Lend block) = block < 65536
IsSound strings count (Unlend block) = block < 65536
IsSound strings count (Poke address number) = length (string_at strings number) ≡ 16
IsSound strings count (Peek address word) = word < 4
IsSound strings count (Arrive number) = number < length strings
IsSound strings count RxStep = ⊤
IsSound strings count (TxStep queue) = queue < 65536
IsSound strings count (IntStep group) = IsGroup group
IsSound strings count (QueueStep direction queue) = queue < 65536
IsSound strings count EepromStep = ⊤
IsSound strings count (Link up) = ⊤
IsSound strings count Collect = ⊤
IsSound strings count (Expect want mask) = ⊤
IsSound strings count (And word) = ⊤
IsSound strings count (JumpIfEqual word target) = target ≤ count
IsSound strings count (JumpUnlessEqual word target) = target ≤ count
IsSound strings count (Jump target) = target ≤ count
IsSound strings count Halt = ⊤

-- A data string is 1 to 16,384 bytes long.
pub record IsDataString (string : List ℕ) : Type 0 where
  pub some : 1 ≤ length string
  pub short : length string ≤ 16384

-- A program has at most 4,096 instructions, all sound, and at most 1,024 data strings of 1 to 16,384 bytes each.
pub record IsListing (listing : Listing) : Type 0 where
  pub few : length listing.instructions ≤ 4096
  pub few_strings : length listing.strings ≤ 1024
  pub strings : AllByRecursion IsDataString listing.strings
  pub sound : AllByRecursion (IsSound listing.strings (length listing.instructions)) listing.instructions
