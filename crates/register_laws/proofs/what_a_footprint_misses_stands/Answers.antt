use Rattle.register_laws.proofs.ReadBack.{settings_stand}
use Rattle.register_laws.proofs.Stands.{receive_stands, transmit_stands, group_stands}
use Rattle.register_laws.proofs.what_a_footprint_misses_stands.Goals as goal

pub returns-clause-receive : goal.returns-clause-receive
returns-clause-receive c = receive_stands

pub returns-clause-transmit : goal.returns-clause-transmit
returns-clause-transmit c = transmit_stands

pub returns-clause-interrupts : goal.returns-clause-interrupts
returns-clause-interrupts c = group_stands

pub returns-clause-settings : goal.returns-clause-settings
returns-clause-settings c = settings_stand
