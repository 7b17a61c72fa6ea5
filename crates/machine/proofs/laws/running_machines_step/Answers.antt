use Rattle.machine.proofs.Running.{running_machines_step}
use Rattle.machine.proofs.laws.running_machines_step.Goals as goal

pub returns : goal.returns
returns c = running_machines_step
