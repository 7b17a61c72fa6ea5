use Rattle.register_laws.proofs.Switches.{receive-shut, transmit-shut}
use Rattle.register_laws.proofs.shut_side_is_off.Goals as goal

pub returns-clause-receive : goal.returns-clause-receive
returns-clause-receive c = receive-shut

pub returns-clause-transmit : goal.returns-clause-transmit
returns-clause-transmit c = transmit-shut
