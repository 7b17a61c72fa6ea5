-- The lines that a machine's steps print.
use Rattle.std.specs.Prelude.{ℕ, zero, suc, List, [], ◌++◌, codes, decimal}
use Rattle.program.specs.DmaArena.Block.{Block}
use Rattle.nic_device.specs.declared.Config.{Config}
use Rattle.nic_device.specs.declared.Reply.{Reply}
use Rattle.machine.specs.Machine.{machine_at, machine_step}
use Rattle.machine.specs.MachineState.{MachineState}
use Rattle.machine.specs.declared.StepAnswer.{StepAnswer}
use Rattle.machine.specs.declared.StepAnswer.TheVariants.{Local, Made, NoBlock, Stopped}
use Rattle.program.specs.Listing.{Listing}
use Rattle.bench_commands.specs.Reply.{reply_text}

-- The line for an instruction that ran an event: the instruction's number, and the device's reply.
abbrev pub reply_line : ℕ → Reply Block → List ℕ
reply_line pc reply = decimal pc ++ (codes " " ++ (reply_text reply ++ codes "\n"))

-- The line for an instruction that couldn't lend its block: the instruction's number.
abbrev pub no_block_line : ℕ → List ℕ
no_block_line pc = decimal pc ++ codes " no block\n"

-- The line that a step prints, if any; `pc` is the number of the executed instruction.
abbrev pub answer_text : ℕ → StepAnswer → List ℕ
answer_text pc (Made reply) = reply_line pc reply
answer_text pc NoBlock = no_block_line pc
answer_text pc Local = []
answer_text pc Stopped = []

-- The line that the machine's next step prints.
abbrev pub step_text : Listing → MachineState → List ℕ
step_text program state = answer_text state.pc (machine_step program state).answer

-- The lines of the first n steps.
unfoldable pub steps_text : Listing → Config → ℕ → List ℕ
steps_text program config zero = []
steps_text program config (suc n) = steps_text program config n ++ step_text program (machine_at program config n)
