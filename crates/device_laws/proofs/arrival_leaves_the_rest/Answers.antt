use Rattle.device_laws.proofs.StandingRest.{arrival_rest}
use Rattle.device_laws.proofs.arrival_leaves_the_rest.Goals as goal

pub returns : goal.returns
returns c = arrival_rest
