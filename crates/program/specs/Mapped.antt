-- Mapping the names in an instruction to numbers.
use Rattle.std.specs.Prelude.{◌≡◌, ⊤, Result, Ok, Err}
use Rattle.std.specs.Fn.{FnOnceReturnsAt}
use denote.Ref.{Bor}
use denote.Param.Members.{Once}
use Rattle.program.specs.declared.instruction.Instruction.{Instruction}
use Rattle.program.specs.declared.instruction.Instruction.TheVariants.{Write, Read, VfWrite, VfRead, Lend, Unlend}
use Rattle.program.specs.declared.instruction.Instruction.TheVariants.{Poke, Peek, Arrive, RxStep, TxStep, IntStep}
use Rattle.program.specs.declared.instruction.Instruction.TheVariants.{QueueStep, EepromStep, Link, Collect, Expect}
use Rattle.program.specs.declared.instruction.Instruction.TheVariants.{And, JumpIfEqual, JumpUnlessEqual, Jump, Halt}

-- Applies the second step to the first step's value; if the first step returned an error, returns this error.
infixl 10 ◌then◌
abbrev pub ◌then◌ : {A B E : Type 0} → Result A E → (A → Result B E) → Result B E
Ok x then f = f x
Err e then f = Err e

-- A call returns the value of the function `given` for the argument, which the call receives by reference.
abbrev pub AnswersBy : {F X R : Type 0} → Once F (Bor X × Unit {0}) R → F → (X → R) → Type 0
AnswersBy {X = X} {R = R} calls f given = (x : X) (r : R) → FnOnceReturnsAt calls f x r → r ≡ given x

-- The instruction with `label` applied to its jump target and `string` applied to its data string, or the error that
-- one of these functions returns.
abbrev pub try_map : {L D M N E : Type 0} → (L → Result M E) → (D → Result N E) → Instruction L D
    → Result (Instruction M N) E
try_map label string (Write address word) = Ok (Write address word)
try_map label string (Read address) = Ok (Read address)
try_map label string (VfWrite function offset word) = Ok (VfWrite function offset word)
try_map label string (VfRead function offset) = Ok (VfRead function offset)
try_map label string (Lend block) = Ok (Lend block)
try_map label string (Unlend block) = Ok (Unlend block)
try_map label string (Poke address name) = string name then λ number. Ok (Poke address number)
try_map label string (Peek address word) = Ok (Peek address word)
try_map label string (Arrive name) = string name then λ number. Ok (Arrive number)
try_map label string RxStep = Ok RxStep
try_map label string (TxStep queue) = Ok (TxStep queue)
try_map label string (IntStep group) = Ok (IntStep group)
try_map label string (QueueStep direction queue) = Ok (QueueStep direction queue)
try_map label string EepromStep = Ok EepromStep
try_map label string (Link up) = Ok (Link up)
try_map label string Collect = Ok Collect
try_map label string (Expect want mask) = Ok (Expect want mask)
try_map label string (And word) = Ok (And word)
try_map label string (JumpIfEqual word name) = label name then λ pc. Ok (JumpIfEqual word pc)
try_map label string (JumpUnlessEqual word name) = label name then λ pc. Ok (JumpUnlessEqual word pc)
try_map label string (Jump name) = label name then λ pc. Ok (Jump pc)
try_map label string Halt = Ok Halt

-- The instruction comes after `tx` in the table, and has neither a jump target nor a data string.
abbrev pub IsLaterNameless : {L D : Type 0} → Instruction L D → Type 0
IsLaterNameless (IntStep group) = ⊤
IsLaterNameless (QueueStep direction queue) = ⊤
IsLaterNameless EepromStep = ⊤
IsLaterNameless (Link up) = ⊤
IsLaterNameless Collect = ⊤
IsLaterNameless (Expect want mask) = ⊤
IsLaterNameless (And word) = ⊤
IsLaterNameless Halt = ⊤
IsLaterNameless _ = ⊥

-- The instruction has neither a jump target nor a data string.
abbrev pub IsNameless : {L D : Type 0} → Instruction L D → Type 0
IsNameless (Poke address name) = ⊥
IsNameless (Arrive name) = ⊥
IsNameless (JumpIfEqual word name) = ⊥
IsNameless (JumpUnlessEqual word name) = ⊥
IsNameless (Jump name) = ⊥
IsNameless _ = ⊤

-- The instruction with other types for its names, if it has no names; otherwise the original instruction as the error.
abbrev pub without_names : {L D M N : Type 0} → Instruction L D → Result (Instruction M N) (Instruction L D)
without_names instruction = try_map (λ _. Err instruction) (λ _. Err instruction) instruction
