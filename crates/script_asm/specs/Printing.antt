-- Instructions as text.
use Rattle.std.specs.Prelude.{ℕ, Bool, true, false, ◌==◌, ◌++◌, List, Option, Some, None, unwrap_or, codes, decimal}
use Rattle.std.specs.Prelude.{if◌then◌else◌}
use Rattle.program.specs.declared.instruction.Instruction.TheVariants.{Write, Read, VfWrite, VfRead, Lend, Unlend, Poke}
use Rattle.program.specs.declared.instruction.Instruction.TheVariants.{Peek, Arrive, RxStep, TxStep, IntStep, QueueStep}
use Rattle.program.specs.declared.instruction.Instruction.TheVariants.{EepromStep, Link, Collect, Expect, And}
use Rattle.program.specs.declared.instruction.Instruction.TheVariants.{JumpIfEqual, JumpUnlessEqual, Jump, Halt}
use Rattle.script_asm.specs.Prelude.{Dir, Group, Instruction, Pf, Place, Rx, Tx, Vf, address_among, place_among}
use Rattle.script_asm.specs.Prelude.{row_of, runs, word_text}

-- The name of a place's row, with the place's index if the row has several registers.
abbrev pub place_text : Place → List ℕ
place_text place =
    if (row_of place.row).count == 1 then (row_of place.row).name
    else (row_of place.row).name ++ (codes "[" ++ (decimal place.index ++ codes "]"))

-- The place, if this address is the place's first.
abbrev pub if_first_at : ℕ → Place → Option Place
if_first_at address place = if unwrap_or (address_among runs place) 0 == address then Some place else None

-- The register that has this first address.
abbrev pub place_first_at : ℕ → Option Place
place_first_at address = elim (place_among runs address) [ None ↦ None | Some place ↦ if_first_at address place ]

-- An address as text: a register's name if the address is the register's first, otherwise the number.
abbrev pub target_text : ℕ → List ℕ
target_text address = elim (place_first_at address) [ None ↦ word_text address | Some place ↦ place_text place ]

-- An interrupt group as text: `pf` for the physical function, or a virtual function's number.
abbrev pub group_text : Group → List ℕ
group_text Pf = codes "pf"
group_text (Vf function) = word_text function

-- A queue's side as text.
abbrev pub direction_text : Dir → List ℕ
direction_text Rx = codes "rx"
direction_text Tx = codes "tx"

-- The link's state as text.
abbrev pub link_text : Bool → List ℕ
link_text true = codes "up"
link_text false = codes "down"

-- A program's instruction as text. A data string is printed as `d` and its number, and a label as `L` and its number.
abbrev pub instruction_text : Instruction ℕ ℕ → List ℕ
instruction_text (Write address word) = codes "w " ++ (target_text address ++ (codes " " ++ word_text word))
instruction_text (Read address) = codes "r " ++ target_text address
instruction_text (VfWrite function offset word) =
    codes "vw " ++ (word_text function ++ (codes " " ++ (word_text offset ++ (codes " " ++ word_text word))))
instruction_text (VfRead function offset) = codes "vr " ++ (word_text function ++ (codes " " ++ word_text offset))
instruction_text (Lend block) = codes "lend " ++ word_text block
instruction_text (Unlend block) = codes "unlend " ++ word_text block
instruction_text (Poke address number) = codes "poke " ++ (word_text address ++ (codes " d" ++ decimal number))
instruction_text (Peek address word) = codes "peek " ++ (word_text address ++ (codes " " ++ word_text word))
instruction_text (Arrive number) = codes "arrive d" ++ decimal number
instruction_text RxStep = codes "rx"
instruction_text (TxStep queue) = codes "tx " ++ word_text queue
instruction_text (IntStep group) = codes "int " ++ group_text group
instruction_text (QueueStep direction queue) = codes "qstep " ++ (direction_text direction ++ (codes " "
    ++ word_text queue))
instruction_text EepromStep = codes "eestep"
instruction_text (Link up) = codes "link " ++ link_text up
instruction_text Collect = codes "collect"
instruction_text (Expect want mask) = codes "expect " ++ (word_text want ++ (codes " " ++ word_text mask))
instruction_text (And word) = codes "and " ++ word_text word
instruction_text (JumpIfEqual word pc) = codes "jeq " ++ (word_text word ++ (codes " L" ++ decimal pc))
instruction_text (JumpUnlessEqual word pc) = codes "jne " ++ (word_text word ++ (codes " L" ++ decimal pc))
instruction_text (Jump pc) = codes "jmp L" ++ decimal pc
instruction_text Halt = codes "halt"
