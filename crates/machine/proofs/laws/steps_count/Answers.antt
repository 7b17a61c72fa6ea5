use Rattle.machine.proofs.Running.{steps_count}
use Rattle.machine.proofs.laws.steps_count.Goals as goal

pub returns : goal.returns
returns c = steps_count
