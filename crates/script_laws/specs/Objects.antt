-- Each of the twelve bytes of an instruction in an object, and the faults of bytes that aren't an object.
use Rattle.std.specs.Prelude.{ℕ, ◌≡◌, ◌/◌, ◌%◌, true, false, List, [], ◌∷◌, ◌++◌, take, Ok, Err}
use Rattle.program.specs.Bytes.{bytes_of_fields}
use Rattle.program.specs.DmaRing.declared.dir.Dir.TheVariants.{Rx, Tx}
use Rattle.program.specs.Encoding.{fields_of}
use Rattle.program.specs.IntrUnit.declared.group.Group.TheVariants.{Pf, Vf}
use Rattle.program.specs.Object.{object_of, read_of}
use Rattle.program.specs.declared.fault.ObjectFault.{ObjectFault}
use Rattle.program.specs.declared.fault.ObjectFault.TheVariants.{Magic, Version, Length, Opcode, Operand, Target}
use Rattle.program.specs.declared.instruction.Instruction.{Instruction}
use Rattle.program.specs.declared.instruction.Instruction.TheVariants as instr

-- The operation, its kind, one 16-bit number and two 32-bit numbers, each with the low byte first.
abbrev pub bytes : (op sub x a b : ℕ) → List ℕ
bytes op sub x a b =
    op ∷ sub ∷ x % 256 ∷ x / 0x100 % 256
    ∷ a % 256 ∷ a / 0x100 % 256 ∷ a / 0x10000 % 256 ∷ a / 0x1000000 % 256
    ∷ b % 256 ∷ b / 0x100 % 256 ∷ b / 0x10000 % 256 ∷ b / 0x1000000 % 256 ∷ []

-- The bytes of an instruction.
abbrev pub bytes_of : Instruction ℕ ℕ → List ℕ
bytes_of i = bytes_of_fields (fields_of i)

pub record InstructionsAreBytes : Type 0 where
  pub write : (address word : ℕ) → bytes_of (instr.Write address word) ≡ bytes 1 0 0 address word
  pub read : (address : ℕ) → bytes_of (instr.Read address) ≡ bytes 2 0 0 address 0
  pub vf_write : (v offset word : ℕ) → bytes_of (instr.VfWrite v offset word) ≡ bytes 3 0 v offset word
  pub vf_read : (v offset : ℕ) → bytes_of (instr.VfRead v offset) ≡ bytes 4 0 v offset 0
  pub lend : (block : ℕ) → bytes_of (instr.Lend block) ≡ bytes 5 0 block 0 0
  pub unlend : (block : ℕ) → bytes_of (instr.Unlend block) ≡ bytes 6 0 block 0 0
  pub poke : (address string : ℕ) → bytes_of (instr.Poke address string) ≡ bytes 7 0 string address 0
  pub peek : (address word : ℕ) → bytes_of (instr.Peek address word) ≡ bytes 8 word 0 address 0
  pub arrive : (string : ℕ) → bytes_of (instr.Arrive string) ≡ bytes 9 0 string 0 0
  pub rx : bytes_of instr.RxStep ≡ 10 ∷ 0 ∷ 0 ∷ 0 ∷ 0 ∷ 0 ∷ 0 ∷ 0 ∷ 0 ∷ 0 ∷ 0 ∷ 0 ∷ []
  pub tx : (queue : ℕ) → bytes_of (instr.TxStep queue) ≡ bytes 11 0 queue 0 0
  pub int_pf : bytes_of (instr.IntStep Pf) ≡ 12 ∷ 0 ∷ 0 ∷ 0 ∷ 0 ∷ 0 ∷ 0 ∷ 0 ∷ 0 ∷ 0 ∷ 0 ∷ 0 ∷ []
  pub int_vf : (v : ℕ) → bytes_of (instr.IntStep (Vf v)) ≡ bytes 12 1 v 0 0
  pub switch_rx : (queue : ℕ) → bytes_of (instr.QueueStep Rx queue) ≡ bytes 13 0 queue 0 0
  pub switch_tx : (queue : ℕ) → bytes_of (instr.QueueStep Tx queue) ≡ bytes 13 1 queue 0 0
  pub eeprom : bytes_of instr.EepromStep ≡ 14 ∷ 0 ∷ 0 ∷ 0 ∷ 0 ∷ 0 ∷ 0 ∷ 0 ∷ 0 ∷ 0 ∷ 0 ∷ 0 ∷ []
  pub link_down : bytes_of (instr.Link false) ≡ 15 ∷ 0 ∷ 0 ∷ 0 ∷ 0 ∷ 0 ∷ 0 ∷ 0 ∷ 0 ∷ 0 ∷ 0 ∷ 0 ∷ []
  pub link_up : bytes_of (instr.Link true) ≡ 15 ∷ 1 ∷ 0 ∷ 0 ∷ 0 ∷ 0 ∷ 0 ∷ 0 ∷ 0 ∷ 0 ∷ 0 ∷ 0 ∷ []
  pub collect : bytes_of instr.Collect ≡ 16 ∷ 0 ∷ 0 ∷ 0 ∷ 0 ∷ 0 ∷ 0 ∷ 0 ∷ 0 ∷ 0 ∷ 0 ∷ 0 ∷ []
  pub expect : (want mask : ℕ) → bytes_of (instr.Expect want mask) ≡ bytes 17 0 0 want mask
  pub mask : (word : ℕ) → bytes_of (instr.And word) ≡ bytes 18 0 0 word 0
  pub jump_if : (word target : ℕ) → bytes_of (instr.JumpIfEqual word target) ≡ bytes 19 0 target word 0
  pub jump_unless : (word target : ℕ) → bytes_of (instr.JumpUnlessEqual word target) ≡ bytes 20 0 target word 0
  pub jump : (target : ℕ) → bytes_of (instr.Jump target) ≡ bytes 21 0 target 0 0
  pub halt : bytes_of instr.Halt ≡ 22 ∷ 0 ∷ 0 ∷ 0 ∷ 0 ∷ 0 ∷ 0 ∷ 0 ∷ 0 ∷ 0 ∷ 0 ∷ 0 ∷ []

-- The object of two instructions, an `arrive` with a three-byte data string and a `halt`: 45 bytes.
abbrev pub ObjectsAreBytes : Type 0
ObjectsAreBytes =
    object_of
    (record { strings = (0xAA ∷ 0xBB ∷ 0xCC ∷ []) ∷ []; instructions = instr.Arrive 0 ∷ instr.Halt ∷ [] })
    ≡ 0x4e ∷ 0x42 ∷ 0x53 ∷ 0x43 ∷ 1 ∷ 0 ∷ 2 ∷ 0 ∷ 1 ∷ 0 ∷ 0 ∷ 0 ∷ 45 ∷ 0 ∷ 0 ∷ 0
    ∷ 9 ∷ 0 ∷ 0 ∷ 0 ∷ 0 ∷ 0 ∷ 0 ∷ 0 ∷ 0 ∷ 0 ∷ 0 ∷ 0
    ∷ 22 ∷ 0 ∷ 0 ∷ 0 ∷ 0 ∷ 0 ∷ 0 ∷ 0 ∷ 0 ∷ 0 ∷ 0 ∷ 0
    ∷ 3 ∷ 0 ∷ 0xAA ∷ 0xBB ∷ 0xCC ∷ []

-- The header of an object with these numbers of instructions, data strings and bytes, each below 256.
abbrev pub head : (instructions strings total : ℕ) → List ℕ
head instructions strings total =
    0x4e ∷ 0x42 ∷ 0x53 ∷ 0x43 ∷ 1 ∷ 0 ∷ instructions ∷ 0 ∷ strings ∷ 0 ∷ 0 ∷ 0 ∷ total ∷ 0 ∷ 0 ∷ 0 ∷ []

-- An instruction with this operation and kind, and with a 16-bit number and two words that are each below 256.
abbrev pub code : (op sub x a b : ℕ) → List ℕ
code op sub x a b = op ∷ sub ∷ x ∷ 0 ∷ a ∷ 0 ∷ 0 ∷ 0 ∷ b ∷ 0 ∷ 0 ∷ 0 ∷ []

-- Bytes that aren't an object are refused with this fault.
abbrev pub IsRefused : List ℕ → ObjectFault → Type 0
IsRefused bytes fault = read_of bytes ≡ Err fault

-- The object of one instruction.
abbrev pub one : List ℕ → List ℕ
one instruction = head 1 0 28 ++ instruction

-- A fault in the header is reported first: in its first four bytes, then in the next two, and then in each of its
-- numbers. Missing bytes count as wrong.
pub record HeadersAreFirst : Type 0 where
  pub none : IsRefused [] Magic
  pub three : IsRefused (take 3 (head 0 0 16)) Magic
  pub four : IsRefused (take 4 (head 0 0 16)) Version
  pub five : IsRefused (take 5 (head 0 0 16)) Version
  pub six : IsRefused (take 6 (head 0 0 16)) Length
  pub fifteen : IsRefused (take 15 (head 0 0 16)) Length
  pub all : read_of (head 0 0 16) ≡ Ok (record { strings = []; instructions = [] })
  pub magic : IsRefused (0x4e ∷ 0x42 ∷ 0x53 ∷ 0x44 ∷ 2 ∷ 0 ∷ []) Magic
  pub version : IsRefused (0x4e ∷ 0x42 ∷ 0x53 ∷ 0x43 ∷ 2 ∷ 0 ∷ []) Version
  pub next_version : IsRefused (0x4e ∷ 0x42 ∷ 0x53 ∷ 0x43 ∷ 1 ∷ 1 ∷ []) Version
  pub unused : IsRefused (take 10 (head 0 0 16) ++ 1 ∷ 0 ∷ 16 ∷ 0 ∷ 0 ∷ 0 ∷ []) Length
  pub too_many : IsRefused (head 0 0 17) Length
  pub too_few : IsRefused (head 0 0 15) Length
  pub instructions : IsRefused (head 1 0 16) Length
  pub instruction : IsRefused (head 1 0 27 ++ take 11 (code 23 0 0 0 0)) Length
  pub strings : IsRefused (head 1 1 28 ++ code 23 0 0 0 0) Length
  pub empty_string : IsRefused (head 1 1 30 ++ code 23 0 0 0 0 ++ 0 ∷ 0 ∷ []) Length
  pub short_string : IsRefused (head 1 1 32 ++ code 23 0 0 0 0 ++ 3 ∷ 0 ∷ 1 ∷ 2 ∷ []) Length
  pub more : IsRefused (head 1 0 29 ++ code 23 0 0 0 0 ++ 0 ∷ []) Length

-- After the header, the first faulty instruction is reported with its number. Its operation is checked first, then
-- whether an unused field isn't 0 or a number is out of its range, and then its target.
pub record InstructionsAreNext : Type 0 where
  pub none : IsRefused (one (code 0 0 0 0 0)) (Opcode 0)
  pub after_all : IsRefused (one (code 23 0 0 0 0)) (Opcode 0)
  pub first : IsRefused (head 2 0 40 ++ code 22 1 0 0 0 ++ code 23 0 0 0 0) (Operand 0)
  pub second : IsRefused (head 2 0 40 ++ code 22 0 0 0 0 ++ code 23 0 0 0 0) (Opcode 1)
  pub operation : IsRefused (one (code 23 1 0 0 0)) (Opcode 0)
  pub kind : IsRefused (one (code 22 1 0 0 0)) (Operand 0)
  pub number : IsRefused (one (code 22 0 1 0 0)) (Operand 0)
  pub word : IsRefused (one (code 22 0 0 1 0)) (Operand 0)
  pub other_word : IsRefused (one (code 2 0 0 0 1)) (Operand 0)
  pub function : read_of (one (code 4 0 62 0 0)) ≡ Ok (record { strings = []; instructions = instr.VfRead 62 0 ∷ [] })
  pub no_function : IsRefused (one (code 4 0 63 0 0)) (Operand 0)
  pub no_group : IsRefused (one (code 12 1 63 0 0)) (Operand 0)
  pub no_word : IsRefused (one (code 8 4 0 0 0)) (Operand 0)
  pub no_kind_of_int : IsRefused (one (code 12 2 0 0 0)) (Operand 0)
  pub no_kind_of_qstep : IsRefused (one (code 13 2 0 0 0)) (Operand 0)
  pub no_kind_of_link : IsRefused (one (code 15 2 0 0 0)) (Operand 0)
  pub no_string : IsRefused (one (code 9 0 0 0 0)) (Operand 0)
  pub short_poke : IsRefused (head 1 1 33 ++ code 7 0 0 0 0 ++ 3 ∷ 0 ∷ 1 ∷ 2 ∷ 3 ∷ []) (Operand 0)
  pub target : read_of (one (code 21 0 1 0 0)) ≡ Ok (record { strings = []; instructions = instr.Jump 1 ∷ [] })
  pub no_target : IsRefused (one (code 21 0 2 0 0)) (Target 0)
  pub operand : IsRefused (one (code 21 1 2 0 0)) (Operand 0)

pub record ObjectsHaveFaults : Type 0 where
  pub headers : HeadersAreFirst
  pub instructions : InstructionsAreNext
