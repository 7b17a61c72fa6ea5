use Rattle.device_laws.proofs.StandingRest.{message_rest}
use Rattle.device_laws.proofs.message_leaves_the_rest.Goals as goal

pub returns : goal.returns
returns c = message_rest
