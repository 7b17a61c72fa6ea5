-- What a machine is in contracts.
use Rattle.nic_device.specs.declared.Config.{Config}
use Rattle.program.specs.Listing.{Listing}
use Rattle.machine.specs.MachineState.{MachineState}

-- A program, the configuration of its device, and the machine's current state.
pub record Course : Type 0 where
  pub program : Listing
  pub config : Config
  pub state : MachineState
