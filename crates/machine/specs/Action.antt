-- The actions of a program's instructions.
use Rattle.std.specs.Prelude.{◌<◌, ◌≤◌, ℕ, IsFalse, length, ⊤}
use Rattle.nic_device.specs.Step.{moves_block}
use Rattle.nic_device.specs.declared.Event.TheVariants as event
use Rattle.nic_device.specs.declared.Port.TheVariants.{Pf, Vf}
use Rattle.machine.specs.declared.action.Action.{Action}
use Rattle.machine.specs.declared.action.Action.TheVariants.{Make, Lend, TakeBack, Arrive, Local}
use Rattle.machine.specs.declared.action.Kept.{Kept}
use Rattle.machine.specs.declared.action.Kept.TheVariants.{Nothing, Word, Part}
use Rattle.machine.specs.declared.action.LocalAction.{LocalAction}
use Rattle.machine.specs.declared.action.LocalAction.TheVariants as act
use Rattle.program.specs.Listing.{Listing, string_at}
use Rattle.program.specs.declared.instruction.Instruction.{Instruction}
use Rattle.program.specs.declared.instruction.Instruction.TheVariants as instr

-- The action of an instruction: the device event and the part of the reply that is stored, or an action without an
-- event.
abbrev pub action_of : Listing → Instruction ℕ ℕ → Action
action_of program (instr.Write address word) = Make (event.Write Pf address word) Nothing
action_of program (instr.Read address) = Make (event.Read Pf address) Word
action_of program (instr.VfWrite function offset word) = Make (event.Write (Vf function) offset word) Nothing
action_of program (instr.VfRead function offset) = Make (event.Read (Vf function) offset) Word
action_of program (instr.Lend block) = Lend block
action_of program (instr.Unlend block) = TakeBack block
action_of program (instr.Poke address number) = Make (event.Poke16 address (string_at program.strings number)) Nothing
action_of program (instr.Peek address word) = Make (event.Peek16 address) (Part word)
action_of program (instr.Arrive number) = Arrive number
action_of program instr.RxStep = Make event.RxStep Nothing
action_of program (instr.TxStep queue) = Make (event.TxStep queue) Nothing
action_of program (instr.IntStep group) = Make (event.IntStep group) Nothing
action_of program (instr.QueueStep direction queue) = Make (event.QueueStep direction queue) Nothing
action_of program instr.EepromStep = Make event.EepromStep Nothing
action_of program (instr.Link up) = Make (event.Link up) Nothing
action_of program instr.Collect = Make event.Collect Nothing
action_of program (instr.Expect want mask) = Local (act.Expect want mask)
action_of program (instr.And word) = Local (act.And word)
action_of program (instr.JumpIfEqual word target) = Local (act.JumpIfEqual word target)
action_of program (instr.JumpUnlessEqual word target) = Local (act.JumpUnlessEqual word target)
action_of program (instr.Jump target) = Local (act.Jump target)
action_of program instr.Halt = Local act.Halt

-- A jump's target is an instruction of the program or its end.
abbrev pub StaysInside : Listing → LocalAction → Type 0
StaysInside program (act.Expect want mask) = ⊤
StaysInside program (act.And word) = ⊤
StaysInside program (act.JumpIfEqual word target) = target ≤ length program.instructions
StaysInside program (act.JumpUnlessEqual word target) = target ≤ length program.instructions
StaysInside program (act.Jump target) = target ≤ length program.instructions
StaysInside program act.Halt = ⊤

-- If the stored part of a reply is one of the words in its 16 bytes, the word's number is below 4.
abbrev pub IsPart : Kept → Type 0
IsPart Nothing = ⊤
IsPart Word = ⊤
IsPart (Part word) = word < 4

-- An action that an instruction of the program can have.
abbrev pub IsSoundAction : Listing → Action → Type 0
IsSoundAction program (Make event kept) = IsFalse (moves_block event) × IsPart kept
IsSoundAction program (Lend block) = ⊤
IsSoundAction program (TakeBack block) = ⊤
IsSoundAction program (Arrive number) = ⊤
IsSoundAction program (Local local) = StaysInside program local
