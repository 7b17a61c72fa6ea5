-- A step of the machine, and its state after n steps.
use Rattle.std.specs.Prelude.{ℕ, zero, suc, ◌+◌, ◌*◌, ◌-◌, ◌^◌, Bool, true, false, ◌&&◌, ◌==◌, nat_lt, bit_and, List, [], ◌∷◌, ◌++◌, length, slice_get, slice_index, Option, Some, None, ⊤, if◌then◌else◌}
use Rattle.program.specs.DmaArena.Block.{Block, zero_block}
use Rattle.program.specs.DmaArena.Numbers.{Numbers, is_free, with_free, all_free}
use Rattle.card.specs.Card.{arena_after}
use Rattle.nic_device.specs.State.{new_state}
use Rattle.nic_device.specs.Outcome.{Outcome}
use Rattle.nic_device.specs.Step.{step_of, TakesMemory}
use Rattle.nic_device.specs.declared.Config.{Config}
use Rattle.nic_device.specs.declared.Event.{Event}
use Rattle.nic_device.specs.declared.Event.TheVariants as event
use Rattle.nic_device.specs.declared.Reply.{Reply}
use Rattle.nic_device.specs.declared.Reply.TheVariants as reply
use Rattle.machine.specs.Action.{action_of}
use Rattle.machine.specs.MachineState.{MachineState}
use Rattle.machine.specs.declared.action.Action.{Action}
use Rattle.machine.specs.declared.action.Action.TheVariants.{Make, Lend, TakeBack, Arrive, Local}
use Rattle.machine.specs.declared.action.Kept.{Kept}
use Rattle.machine.specs.declared.action.Kept.TheVariants.{Nothing, Word, Part}
use Rattle.machine.specs.declared.action.LocalAction.{LocalAction}
use Rattle.machine.specs.declared.action.LocalAction.TheVariants as act
use Rattle.machine.specs.declared.machine.Status.{Status}
use Rattle.machine.specs.declared.machine.Status.TheVariants.{Running, Ended, Failed}
use Rattle.machine.specs.declared.machine.StepAnswer.{StepAnswer}
use Rattle.machine.specs.declared.machine.StepAnswer.TheVariants as answer
use Rattle.program.specs.Listing.{Listing, string_at}
use Rattle.program.specs.declared.instruction.Instruction.{Instruction}

-- The machine's status if the instruction with this number is next: the machine has ended if this is the number after
-- the last instruction, otherwise it is running.
abbrev pub status_at : Listing → ℕ → Status
status_at program pc = if pc == length program.instructions then Ended else Running

-- The free blocks of a machine before its first step.
abbrev pub all_blocks : Numbers
all_blocks = all_free 0 256

-- A new machine: a new device, all blocks free, and the first instruction next.
abbrev pub start_of : Listing → Config → MachineState
start_of program config =
    record {
      device = new_state config.vfs config.fifo;
      arena = all_blocks;
      pc = 0;
      acc = 0;
      status =
          status_at program 0;
      steps = 0;
    }

-- The state with one more step counted and the instruction with this number next.
abbrev pub moved_to : Listing → MachineState → ℕ → MachineState
moved_to program s pc = record s { pc = pc; status = status_at program pc; steps = s.steps + 1 }

-- The state with one more step counted, advanced to the next instruction.
abbrev pub moved_on : Listing → MachineState → MachineState
moved_on program s = moved_to program s (s.pc + 1)

-- The state with one more step counted, stopped with this status at the same instruction.
abbrev pub stopped_as : MachineState → Status → MachineState
stopped_as s status = record s { status = status; steps = s.steps + 1 }

-- A step's result, and the state after the step.
pub record Step : Type 0 where
  pub answer : StepAnswer
  pub state : MachineState

-- The value in `acc` after a read, including a stray one.
abbrev pub word_read : Reply Block → ℕ → ℕ
word_read (reply.Word word) acc = word
word_read (reply.Stray word) acc = word
word_read other acc = acc

-- The word with this number, out of the four little-endian words in 16 bytes.
abbrev pub word_in : List ℕ → ℕ → ℕ
word_in bytes word =
    slice_index bytes (4 * word) + 2 ^ 8 * slice_index bytes (4 * word + 1) + 2 ^ 16 * slice_index bytes
    (4 * word + 2) + 2 ^ 24 * slice_index bytes (4 * word + 3)

-- The value in `acc` after a peek.
abbrev pub word_peeked : ℕ → Reply Block → ℕ → ℕ
word_peeked word (reply.Bytes bytes) acc = word_in bytes word
word_peeked word other acc = acc

-- The value in `acc` after this part of a reply was stored.
abbrev pub acc_after : Kept → Reply Block → ℕ → ℕ
acc_after Nothing reply acc = acc
acc_after Word reply acc = word_read reply acc
acc_after (Part word) reply acc = word_peeked word reply acc

-- The step that runs a device event and leaves these blocks free.
abbrev pub made : Listing → MachineState → Kept → Numbers → Outcome → Step
made program s kept arena outcome = record {
  answer = answer.Made outcome.reply;
  state = moved_on program (record s {
    device = outcome.state;
    arena = arena_after arena outcome.reply;
    acc = acc_after kept outcome.reply s.acc;
  });
}

-- The state after an action without an event: compare `acc` under a mask, clear bits of `acc`, jump, or end the
-- program.
abbrev pub acted : Listing → MachineState → LocalAction → MachineState
acted program s (act.Expect want mask) =
    if bit_and s.acc mask == want then moved_on program s else stopped_as s (Failed s.pc (bit_and s.acc mask) want)
acted program s (act.And word) = moved_on program (record s { acc = bit_and s.acc word })
acted program s (act.JumpIfEqual word target) = moved_to program s (if s.acc == word then target else s.pc + 1)
acted program s (act.JumpUnlessEqual word target) = moved_to program s (if s.acc == word then s.pc + 1 else target)
acted program s (act.Jump target) = moved_to program s target
acted program s act.Halt = stopped_as s Ended

-- The device event that an action runs, if any, as a list.
abbrev pub events_of : Listing → MachineState → Action → List (Event Block)
events_of program s (Make event kept) = event ∷ []
events_of program s (Lend block) = if is_free s.arena block then event.Lend (zero_block block) ∷ [] else []
events_of program s (TakeBack block) = event.Take block ∷ []
events_of program s (Arrive number) = event.Arrive (string_at program.strings number) ∷ []
events_of program s (Local local) = []

-- The step that executes an action. If a block to be lent isn't free, the step runs no event.
abbrev pub done : Listing → MachineState → Action → Step
done program s (Make event kept) = made program s kept s.arena (step_of s.device event)
done program s (Lend block) =
    if is_free s.arena block
    then made program s Nothing (with_free s.arena block false) (step_of s.device (event.Lend (zero_block block)))
    else record { answer = answer.NoBlock; state = moved_on program s }
done program s (TakeBack block) = made program s Nothing s.arena (step_of s.device (event.Take block))
done program s (Arrive number) =
    made program s Nothing s.arena (step_of s.device (event.Arrive (string_at program.strings number)))
done program s (Local local) = record { answer = answer.Local; state = acted program s local }

abbrev pub is_running : Status → Bool
is_running Running = true
is_running Ended = false
is_running (Failed pc have want) = false

-- The next instruction of a machine that runs and has counted fewer than 2^64 - 1 steps.
abbrev pub next_instruction : Listing → MachineState → Option (Instruction ℕ ℕ)
next_instruction program s =
    if is_running s.status && nat_lt s.steps (2 ^ 64 - 1) then slice_get program.instructions s.pc else None

-- The step that executes the next instruction. If there is no next instruction, the result is `Stopped` and the
-- machine stays unchanged.
abbrev pub executed_if_some : Listing → MachineState → Option (Instruction ℕ ℕ) → Step
executed_if_some program s None = record { answer = answer.Stopped; state = s }
executed_if_some program s (Some instruction) = done program s (action_of program instruction)

-- One step of the machine.
unfoldable pub machine_step : Listing → MachineState → Step
machine_step program s = executed_if_some program s (next_instruction program s)

-- The machine after n steps.
unfoldable pub machine_at : Listing → Config → ℕ → MachineState
machine_at program config zero = start_of program config
machine_at program config (suc n) = (machine_step program (machine_at program config n)).state

-- The device event that a step runs, if any, as a list.
abbrev pub events_if_some : Listing → MachineState → Option (Instruction ℕ ℕ) → List (Event Block)
events_if_some program s None = []
events_if_some program s (Some instruction) = events_of program s (action_of program instruction)

-- The device events of the first n steps.
unfoldable pub events_until : Listing → Config → ℕ → List (Event Block)
events_until program config zero = []
events_until program config (suc n) =
    let s = machine_at program config n in
    events_until program config n ++ events_if_some program s (next_instruction program s)

-- Memory may run out for an action: to copy the block that is taken back or the frame that arrives, or to lend a free
-- block. It may also run out for a transmit step that isn't idle, for a queue below 128.
abbrev pub TakesSome : MachineState → Action → Type 0
TakesSome s (Make event kept) = TakesMemory s.device event
TakesSome s (Lend block) = TakesMemory s.device (event.Lend (zero_block block))
TakesSome s (TakeBack block) = ⊤
TakesSome s (Arrive number) = ⊤
TakesSome s (Local local) = ⊥

abbrev pub NextTakesSome : Listing → MachineState → Option (Instruction ℕ ℕ) → Type 0
NextTakesSome program s None = ⊥
NextTakesSome program s (Some instruction) = TakesSome s (action_of program instruction)

-- Memory may run out for a step.
abbrev pub StepTakesMemory : Listing → MachineState → Type 0
StepTakesMemory program s = NextTakesSome program s (next_instruction program s)
