-- The meaning of an instruction's fields.
use Rattle.std.specs.Prelude.{ℕ, ◌%◌, Bool, not, ◌==◌, nat_lt, nat_le, List, length, Option, Some, None}
use Rattle.std.specs.Prelude.{Result, Ok, Err}
use Rattle.std.specs.Prelude.{if◌then◌else◌}
use Rattle.intr_unit.specs.declared.Group.{Group}
use Rattle.intr_unit.specs.declared.Group.TheVariants.{Pf, Vf}
use Rattle.dma_ring.specs.declared.Dir.{Dir}
use Rattle.dma_ring.specs.declared.Dir.TheVariants.{Rx, Tx}
use Rattle.program.specs.declared.fields.Fields.{Fields}
use Rattle.program.specs.declared.instruction.Instruction.{Instruction}
use Rattle.program.specs.declared.instruction.Instruction.TheVariants.{Write, Read, VfWrite, VfRead, Lend, Unlend}
use Rattle.program.specs.declared.instruction.Instruction.TheVariants.{Poke, Peek, Arrive, RxStep, TxStep, IntStep}
use Rattle.program.specs.declared.instruction.Instruction.TheVariants.{QueueStep, EepromStep, Link, Collect, Expect}
use Rattle.program.specs.declared.instruction.Instruction.TheVariants.{And, JumpIfEqual, JumpUnlessEqual, Jump, Halt}
use Rattle.program.specs.declared.meaning.FieldFault.{FieldFault}
use Rattle.program.specs.declared.meaning.FieldFault.TheVariants.{Opcode, Operand, Target}
use Rattle.program.specs.Encoding.{fields_of, same_fields}
use Rattle.program.specs.Listing.{string_at}

-- The low byte of a number.
abbrev pub low_byte : ℕ → ℕ
low_byte x = x % 256

-- The interrupt group with this kind and number.
abbrev pub group_of : ℕ → ℕ → Group
group_of sub x = if sub == 0 then Pf else Vf (low_byte x)

-- The side of a queue that this variant encodes.
abbrev pub direction_of : ℕ → Dir
direction_of sub = if sub == 0 then Rx else Tx

-- The instruction with this operation and the fields that the operation uses. `None` if the operation is unknown.
abbrev pub instruction_in : Fields → Option (Instruction ℕ ℕ)
instruction_in f =
    if f.op == 1 then Some (Write f.a f.b)
    else if f.op == 2 then Some (Read f.a)
    else if f.op == 3 then Some (VfWrite (low_byte f.x) f.a f.b)
    else if f.op == 4 then Some (VfRead (low_byte f.x) f.a)
    else if f.op == 5 then Some (Lend f.x)
    else if f.op == 6 then Some (Unlend f.x)
    else if f.op == 7 then Some (Poke f.a f.x)
    else if f.op == 8 then Some (Peek f.a f.sub)
    else if f.op == 9 then Some (Arrive f.x)
    else if f.op == 10 then Some RxStep
    else if f.op == 11 then Some (TxStep f.x)
    else if f.op == 12 then Some (IntStep (group_of f.sub f.x))
    else if f.op == 13 then Some (QueueStep (direction_of f.sub) f.x)
    else if f.op == 14 then Some EepromStep
    else if f.op == 15 then Some (Link (not (f.sub == 0)))
    else if f.op == 16 then Some Collect
    else if f.op == 17 then Some (Expect f.a f.b)
    else if f.op == 18 then Some (And f.a)
    else if f.op == 19 then Some (JumpIfEqual f.a f.x)
    else if f.op == 20 then Some (JumpUnlessEqual f.a f.x)
    else if f.op == 21 then Some (Jump f.x)
    else if f.op == 22 then Some Halt
    else None

-- The fault, unless the condition holds.
abbrev pub unless : Bool → FieldFault → Option FieldFault
unless fits fault = if fits then None else Some fault

-- The fault if the instruction refers to something that doesn't exist in a program with these data strings and this
-- many instructions.
abbrev pub fault_in : List (List ℕ) → ℕ → Instruction ℕ ℕ → Option FieldFault
fault_in strings count (Write address word) = None
fault_in strings count (Read address) = None
fault_in strings count (VfWrite function offset word) = unless (nat_lt function 63) Operand
fault_in strings count (VfRead function offset) = unless (nat_lt function 63) Operand
fault_in strings count (Lend block) = None
fault_in strings count (Unlend block) = None
fault_in strings count (Poke address number) = unless (length (string_at strings number) == 16) Operand
fault_in strings count (Peek address word) = unless (nat_lt word 4) Operand
fault_in strings count (Arrive number) = unless (nat_lt number (length strings)) Operand
fault_in strings count RxStep = None
fault_in strings count (TxStep queue) = None
fault_in strings count (IntStep Pf) = None
fault_in strings count (IntStep (Vf function)) = unless (nat_lt function 63) Operand
fault_in strings count (QueueStep direction queue) = None
fault_in strings count EepromStep = None
fault_in strings count (Link up) = None
fault_in strings count Collect = None
fault_in strings count (Expect want mask) = None
fault_in strings count (And word) = None
fault_in strings count (JumpIfEqual word target) = unless (nat_le target count) Target
fault_in strings count (JumpUnlessEqual word target) = unless (nat_le target count) Target
fault_in strings count (Jump target) = unless (nat_le target count) Target
fault_in strings count Halt = None

-- The instruction, or its fault if it has one.
abbrev pub unless_faulty : Instruction ℕ ℕ → Option FieldFault → Result (Instruction ℕ ℕ) FieldFault
unless_faulty instruction None = Ok instruction
unless_faulty instruction (Some fault) = Err fault

-- The decoded instruction, if the fields that it doesn't use are 0 and everything to which it refers exists. Otherwise
-- its fault.
abbrev pub spelled_so : List (List ℕ) → ℕ → Fields → Option (Instruction ℕ ℕ) → Result (Instruction ℕ ℕ) FieldFault
spelled_so strings count f None = Err Opcode
spelled_so strings count f (Some instruction) =
    if same_fields (fields_of instruction) f then unless_faulty instruction (fault_in strings count instruction)
    else Err Operand

-- The instruction that the fields encode in a program with these data strings and this many instructions, or the fault
-- in the fields.
abbrev pub meaning : List (List ℕ) → ℕ → Fields → Result (Instruction ℕ ℕ) FieldFault
meaning strings count f = spelled_so strings count f (instruction_in f)
