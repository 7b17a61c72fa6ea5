use Rattle.register_laws.proofs.SideWords.{receive-written, transmit-written}
use Rattle.register_laws.proofs.written_word_is_the_sides.Goals as goal

pub returns-clause-receive : goal.returns-clause-receive
returns-clause-receive c = receive-written

pub returns-clause-transmit : goal.returns-clause-transmit
returns-clause-transmit c = transmit-written
