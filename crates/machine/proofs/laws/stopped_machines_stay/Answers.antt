use Rattle.machine.proofs.Running.{stopped_machines_stay}
use Rattle.machine.proofs.laws.stopped_machines_stay.Goals as goal

pub returns : goal.returns
returns c = stopped_machines_stay
