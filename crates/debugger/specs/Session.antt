-- How contracts see a debugger.
use Rattle.std.specs.Prelude.{◌≡◌, ◌≤◌, ℕ, List, Option, Ok}
use Rattle.nic_device.specs.Config.{IsBadFifo}
use Rattle.nic_device.specs.declared.Config.{Config}
use Rattle.machine.specs.Course.{Course}
use Rattle.machine.specs.Machine.{machine_at}
use Rattle.machine.specs.MachineState.{MachineState}
use Rattle.program.specs.Listing.{Listing}
use Rattle.program.specs.Object.{read_of}
use Rattle.debugger.specs.declared.command.View.{View}

-- A debugger's program, the configuration of its device, the number of steps taken, and the breakpoints.
pub record Session : Type 0 where
  pub program : Listing
  pub config : Config
  pub steps : ℕ
  pub breakpoints : List ℕ

-- The machine of a session, after the session's steps.
abbrev pub machine_of : Session → MachineState
machine_of s = machine_at s.program s.config s.steps

-- The state of the session's machine, with the value that a show command requested, if any.
abbrev pub view_of : Session → Option ℕ → View
view_of s shown = record {
  steps = s.steps;
  pc = (machine_of s).pc;
  acc = (machine_of s).acc;
  status = (machine_of s).status;
  shown = shown;
}

-- A device can be created with this configuration.
pub record CanBeMade (config : Config) : Type 0 where
  pub vfs : config.vfs ≤ 63
  pub fifo : ¬ IsBadFifo config.fifo

-- The machine is in the state that its number of steps determines, and can be recreated from the object and the
-- configuration.
pub record CanBeReplayed (object : List ℕ) (config : Config) (machine : Course) : Type 0 where
  pub program : read_of object ≡ Ok machine.program
  pub same : machine.config ≡ config
  pub made : CanBeMade config
  pub at : machine.state ≡ machine_at machine.program machine.config machine.state.steps
