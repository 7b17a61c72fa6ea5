-- The encoding table: the fields of each instruction.
use Rattle.std.specs.Prelude.{ℕ, ◌<◌, ◌^◌, Bool, true, false, ◌&&◌, ◌==◌}
use Rattle.intr_unit.specs.declared.Group.TheVariants.{Pf, Vf}
use Rattle.dma_ring.specs.declared.Dir.TheVariants.{Rx, Tx}
use Rattle.program.specs.declared.fields.Fields.{Fields}
use Rattle.program.specs.declared.instruction.Instruction.{Instruction}
use Rattle.program.specs.declared.instruction.Instruction.TheVariants.{Write, Read, VfWrite, VfRead, Lend, Unlend}
use Rattle.program.specs.declared.instruction.Instruction.TheVariants.{Poke, Peek, Arrive, RxStep, TxStep, IntStep}
use Rattle.program.specs.declared.instruction.Instruction.TheVariants.{QueueStep, EepromStep, Link, Collect, Expect}
use Rattle.program.specs.declared.instruction.Instruction.TheVariants.{And, JumpIfEqual, JumpUnlessEqual, Jump, Halt}

-- Fields with this operation, this variant, this 16-bit number and these two words.
abbrev pub fields : ℕ → ℕ → ℕ → ℕ → ℕ → Fields
fields op sub x a b = record { op = op; sub = sub; x = x; a = a; b = b }

-- The fields of an instruction. Fields that the operation doesn't use are 0.
abbrev pub fields_of : Instruction ℕ ℕ → Fields
fields_of (Write address word) = fields 1 0 0 address word
fields_of (Read address) = fields 2 0 0 address 0
fields_of (VfWrite function offset word) = fields 3 0 function offset word
fields_of (VfRead function offset) = fields 4 0 function offset 0
fields_of (Lend block) = fields 5 0 block 0 0
fields_of (Unlend block) = fields 6 0 block 0 0
fields_of (Poke address number) = fields 7 0 number address 0
fields_of (Peek address word) = fields 8 word 0 address 0
fields_of (Arrive number) = fields 9 0 number 0 0
fields_of RxStep = fields 10 0 0 0 0
fields_of (TxStep queue) = fields 11 0 queue 0 0
fields_of (IntStep Pf) = fields 12 0 0 0 0
fields_of (IntStep (Vf function)) = fields 12 1 function 0 0
fields_of (QueueStep Rx queue) = fields 13 0 queue 0 0
fields_of (QueueStep Tx queue) = fields 13 1 queue 0 0
fields_of EepromStep = fields 14 0 0 0 0
fields_of (Link false) = fields 15 0 0 0 0
fields_of (Link true) = fields 15 1 0 0 0
fields_of Collect = fields 16 0 0 0 0
fields_of (Expect want mask) = fields 17 0 0 want mask
fields_of (And word) = fields 18 0 0 word 0
fields_of (JumpIfEqual word target) = fields 19 0 target word 0
fields_of (JumpUnlessEqual word target) = fields 20 0 target word 0
fields_of (Jump target) = fields 21 0 target 0 0
fields_of Halt = fields 22 0 0 0 0

-- Whether all fields are equal.
abbrev pub same_fields : Fields → Fields → Bool
same_fields f g = f.op == g.op && f.sub == g.sub && f.x == g.x && f.a == g.a && f.b == g.b

-- The fields fit in 8, 8, 16, 32 and 32 bits.
pub record HaveWidths (f : Fields) : Type 0 where
  pub op : f.op < 2 ^ 8
  pub sub : f.sub < 2 ^ 8
  pub x : f.x < 2 ^ 16
  pub a : f.a < 2 ^ 32
  pub b : f.b < 2 ^ 32
