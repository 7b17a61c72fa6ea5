use Rattle.device_laws.proofs.StandingQueues.{switching_rest}
use Rattle.device_laws.proofs.switching_leaves_the_rest.Goals as goal

pub returns : goal.returns
returns c = switching_rest
