use Rattle.device_laws.proofs.StandingQueues.{transmitting_rest, transmitting_blocks}
use Rattle.device_laws.proofs.transmitting_leaves_the_rest.Goals as goal

pub returns : goal.returns
returns c = record { rest = transmitting_rest; blocks = transmitting_blocks }
