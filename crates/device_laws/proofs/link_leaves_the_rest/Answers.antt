use Rattle.device_laws.proofs.StandingRest.{link_rest, collecting_rest}
use Rattle.device_laws.proofs.link_leaves_the_rest.Goals as goal

pub returns : goal.returns
returns c = record { link = link_rest; collect = collecting_rest }
