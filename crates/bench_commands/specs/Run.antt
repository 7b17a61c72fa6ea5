-- The output of `nicbench run`, and its exit status.
use Rattle.std.specs.Prelude.{ℕ, List, ◌++◌, ◌==◌, ◌||◌, Result, Ok, Err, codes, decimal, nat_lt, if◌then◌else◌}
use Rattle.bench_commands.specs.declared.run_options.RunOptions.{RunOptions}
use Rattle.nic_device.specs.declared.Config.{Config}
use Rattle.machine.specs.Machine.{machine_at}
use Rattle.machine.specs.MachineState.{MachineState}
use Rattle.machine.specs.declared.Status.{Status}
use Rattle.machine.specs.declared.Status.TheVariants.{Ended, Failed, Running}
use Rattle.text_format.specs.Word.{word_text}
use Rattle.program.specs.Listing.{Listing}
use Rattle.script_asm.specs.Script.{program_of}
use Rattle.script_asm.specs.declared.ScriptFault.{ScriptFault}
use Rattle.script_asm.specs.declared.ScriptFault.TheVariants as fault
use Rattle.bench_commands.specs.Answer.{Answer, refused_as, refused_at}
use Rattle.bench_commands.specs.Steps.{steps_text}

-- The final line of a run: the machine's status, with its instruction or its number of steps, depending on the status.
abbrev pub end_as : Status → ℕ → ℕ → Answer
end_as Running pc steps = record { text = codes "limit " ++ (decimal pc ++ codes "\n"); status = 1 }
end_as Ended pc steps = record { text = codes "ok " ++ (decimal steps ++ codes "\n"); status = 0 }
end_as (Failed at have want) pc steps = record {
  text = codes "failed " ++ (decimal at
      ++ (codes " have " ++ (word_text have ++ (codes " want " ++ (word_text want ++ codes "\n")))));
  status = 1;
}

abbrev pub end_of : MachineState → Answer
end_of state = end_as state.status state.pc state.steps

-- The controller that the options request.
abbrev pub config_of : RunOptions → Config
config_of options = record { vfs = options.vfs; fifo = options.fifo }

-- The lines of the steps up to the limit, and the machine's state after them.
abbrev pub machine_answer : Listing → Config → ℕ → Answer
machine_answer program config limit = let end = end_of (machine_at program config limit) in
    record { text = steps_text program config limit ++ end.text; status = end.status }

-- This answer, if a controller with this configuration can be created; otherwise the refusal.
abbrev pub made_with : Config → Answer → Answer
made_with config answer = if nat_lt 63 config.vfs then refused_as (codes "TooManyVfs")
    else if config.fifo == 0 || nat_lt 4096 config.fifo then refused_as (codes "Fifo")
    else answer

-- The answer of running a program.
abbrev pub program_answer : RunOptions → Listing → Answer
program_answer options program =
    made_with (config_of options) (machine_answer program (config_of options) options.limit)

-- The refusal for an input that isn't a script, with the number of the faulty line if there is one.
abbrev pub script_refused : ScriptFault → Answer
script_refused (fault.Syntax line) = refused_at (codes "Syntax") line
script_refused (fault.UnknownName line) = refused_at (codes "UnknownName") line
script_refused (fault.UnknownLabel line) = refused_at (codes "UnknownLabel") line
script_refused (fault.TwoLabels line) = refused_at (codes "TwoLabels") line
script_refused (fault.Range line) = refused_at (codes "Range") line
script_refused fault.TooLong = refused_as (codes "TooLong")
script_refused fault.OutOfMemory = refused_as (codes "OutOfMemory")

-- The answer of running a script, or the refusal for an input that isn't a script.
abbrev pub script_answer : RunOptions → Result Listing ScriptFault → Answer
script_answer options (Ok program) = program_answer options program
script_answer options (Err fault) = script_refused fault

-- The answer to an input's text.
abbrev pub run_answer : RunOptions → List ℕ → Answer
run_answer options text = script_answer options (program_of text)
