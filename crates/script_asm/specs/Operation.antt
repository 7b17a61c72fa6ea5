-- The instruction with this operation and these operands, as written in its line.
use Rattle.std.specs.Prelude.{ℕ, ◌^◌, Bool, List, [], ◌∷◌, Result, Ok, Err, true, false, codes, if◌then◌else◌}
use Rattle.program.specs.declared.instruction.Instruction.TheVariants.{Write, Read, VfWrite, VfRead, Lend, Unlend, Poke}
use Rattle.program.specs.declared.instruction.Instruction.TheVariants.{Peek, Arrive, RxStep, TxStep, IntStep, QueueStep}
use Rattle.program.specs.declared.instruction.Instruction.TheVariants.{EepromStep, Link, Collect, Expect, And}
use Rattle.program.specs.declared.instruction.Instruction.TheVariants.{JumpIfEqual, JumpUnlessEqual, Jump, Halt}
use Rattle.script_asm.specs.Prelude.{Dir, Group, Instruction, Pf, Rx, Tx, Vf, bytes_eq}
use Rattle.script_asm.specs.declared.faults.LineFault.{LineFault}
use Rattle.script_asm.specs.declared.faults.LineFault.TheVariants.{Syntax}
use Rattle.script_asm.specs.Fault.{◌then◌, both}
use Rattle.script_asm.specs.Target.{number_in, number_below, name_in, target_of}

-- An instruction as written in its line, which refers to labels and data strings by name.
abbrev pub Draft : Type 0
Draft = Instruction (List ℕ) (List ℕ)

-- The direction that a word names.
abbrev pub direction_in : List ℕ → Result Dir LineFault
direction_in word = if bytes_eq word (codes "rx") then Ok Rx else if bytes_eq word (codes "tx")
    then Ok Tx else Err Syntax

-- The link state that a word names: true for `up`, false for `down`.
abbrev pub link_in : List ℕ → Result Bool LineFault
link_in word = if bytes_eq word (codes "up") then Ok true else if bytes_eq word (codes "down")
    then Ok false else Err Syntax

-- The interrupt group that a word names: the physical function's, or a virtual function's by its number.
abbrev pub group_in : List ℕ → Result Group LineFault
group_in word = if bytes_eq word (codes "pf") then Ok Pf else (number_below 63 word then λ v. Ok (Vf v))

-- The number of a block or a queue, below 65,536.
abbrev pub number16_in : List ℕ → Result ℕ LineFault
number16_in word = number_below (2 ^ 16) word

-- A table's entry for an operation's name. A name without an entry is a syntax error.
abbrev pub looked_up : List ℕ → List (List ℕ × Result Draft LineFault) → Result Draft LineFault
looked_up name [] = Err Syntax
looked_up name (row ∷ more) = if bytes_eq name row.0 then row.1 else looked_up name more

-- The operations without operands.
abbrev pub table_alone : List (List ℕ × Result Draft LineFault)
table_alone =
    (codes "rx", Ok RxStep) ∷
    (codes "eestep", Ok EepromStep) ∷
    (codes "collect", Ok Collect) ∷
    (codes "halt", Ok Halt) ∷
    []

-- The operations with one operand: `r TARGET`, `lend BLOCK`, `unlend BLOCK`, `arrive NAME`, `tx QUEUE`, `int pf`, `link
-- up`, `expect WORD` with all its bits, `and WORD`, `jmp LABEL`.
abbrev pub table_of_one : List ℕ → List (List ℕ × Result Draft LineFault)
table_of_one a =
    (codes "r", (target_of a then λ address. Ok (Read address))) ∷
    (codes "lend", (number16_in a then λ block. Ok (Lend block))) ∷
    (codes "unlend", (number16_in a then λ block. Ok (Unlend block))) ∷
    (codes "arrive", (name_in a then λ name. Ok (Arrive name))) ∷
    (codes "tx", (number16_in a then λ queue. Ok (TxStep queue))) ∷
    (codes "int", (group_in a then λ group. Ok (IntStep group))) ∷
    (codes "link", (link_in a then λ up. Ok (Link up))) ∷
    (codes "expect", (number_in a then λ want. Ok (Expect want 0xFFFFFFFF))) ∷
    (codes "and", (number_in a then λ word. Ok (And word))) ∷
    (codes "jmp", (name_in a then λ label. Ok (Jump label))) ∷
    []

-- The operations with two operands: `w TARGET WORD`, `vr FUNCTION OFFSET`, `poke ADDRESS NAME`, `peek ADDRESS NUMBER`,
-- `qstep rx QUEUE`, `expect WORD MASK`, `jeq WORD LABEL`, `jne WORD LABEL`.
abbrev pub table_of_two : List ℕ → List ℕ → List (List ℕ × Result Draft LineFault)
table_of_two a b =
    (codes "w", (both (target_of a) (number_in b) then λ f. Ok (Write f.0 f.1))) ∷
    (codes "vr", (both (number_below 63 a) (number_in b) then λ f. Ok (VfRead f.0 f.1))) ∷
    (codes "poke", (both (number_in a) (name_in b) then λ f. Ok (Poke f.0 f.1))) ∷
    (codes "peek", (both (number_in a) (number_below 4 b) then λ f. Ok (Peek f.0 f.1))) ∷
    (codes "qstep", (both (direction_in a) (number16_in b) then λ f. Ok (QueueStep f.0 f.1))) ∷
    (codes "expect", (both (number_in a) (number_in b) then λ f. Ok (Expect f.0 f.1))) ∷
    (codes "jeq", (both (number_in a) (name_in b) then λ f. Ok (JumpIfEqual f.0 f.1))) ∷
    (codes "jne", (both (number_in a) (name_in b) then λ f. Ok (JumpUnlessEqual f.0 f.1))) ∷
    []

-- The operation with three operands: `vw FUNCTION OFFSET WORD`.
abbrev pub table_of_three : List ℕ → List ℕ → List ℕ → List (List ℕ × Result Draft LineFault)
table_of_three a b c =
    (codes "vw", (both (number_below 63 a) (both (number_in b) (number_in c)) then λ f. Ok (VfWrite f.0 f.1.0 f.1.1))) ∷
    []

-- The instruction with this operation's name and these operands.
abbrev pub instruction_in : List ℕ → List (List ℕ) → Result Draft LineFault
instruction_in name [] = looked_up name table_alone
instruction_in name (a ∷ []) = looked_up name (table_of_one a)
instruction_in name (a ∷ b ∷ []) = looked_up name (table_of_two a b)
instruction_in name (a ∷ b ∷ c ∷ []) = looked_up name (table_of_three a b c)
instruction_in name (a ∷ b ∷ c ∷ d ∷ more) = Err Syntax
