use Rattle.register_laws.proofs.Switches.{receive-switched, transmit-switched, switched-stays}
use Rattle.register_laws.proofs.switched_side_is_as_wanted.Goals as goal

pub returns-clause-receive : goal.returns-clause-receive
returns-clause-receive c = receive-switched

pub returns-clause-transmit : goal.returns-clause-transmit
returns-clause-transmit c = transmit-switched

pub returns-clause-stays : goal.returns-clause-stays
returns-clause-stays c = switched-stays
