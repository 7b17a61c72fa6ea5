use Rattle.machine.proofs.Runs.{machines_run_their_device}
use Rattle.machine.proofs.laws.machines_run_their_device.Goals as goal

pub returns : goal.returns
returns c = machines_run_their_device
