-- Running on by a number of steps.
use Rattle.std.specs.Prelude.{ℕ, zero, suc, Bool, true, false, List, if◌then◌else◌}
use Rattle.nic_device.specs.declared.Config.{Config}
use Rattle.machine.specs.Machine.{machine_at, machine_step}
use Rattle.machine.specs.declared.machine.StepAnswer.{StepAnswer}
use Rattle.machine.specs.declared.machine.StepAnswer.TheVariants as answer
use Rattle.program.specs.Listing.{Listing}
use Rattle.debugger.specs.Breakpoints.{has_break}

-- Whether the answer means that no step was taken.
abbrev pub is_stopped : StepAnswer → Bool
is_stopped (answer.Made reply) = false
is_stopped answer.Local = false
is_stopped answer.NoBlock = false
is_stopped answer.Stopped = true

-- Whether the machine takes no further step after n steps.
abbrev pub stops_at : Listing → Config → ℕ → Bool
stops_at program config n = is_stopped (machine_step program (machine_at program config n)).answer

-- The step at which a run of at most `limit` steps from step n ends. The run ends early if the machine stops or if,
-- after a step, the next instruction has a breakpoint.
unfoldable pub run_on : Listing → Config → List ℕ → ℕ → ℕ → ℕ
run_on program config breakpoints n zero = n
run_on program config breakpoints n (suc limit) =
    if stops_at program config n then n
    else if has_break breakpoints (machine_at program config (suc n)).pc then suc n
    else run_on program config breakpoints (suc n) limit
