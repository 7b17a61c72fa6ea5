use Rattle.register_laws.proofs.ReadBack.{enable_read}
use Rattle.register_laws.proofs.Switches.{receive-asked, transmit-asked}
use Rattle.register_laws.proofs.enable_write_only_asks.Goals as goal

pub returns-clause-receive : goal.returns-clause-receive
returns-clause-receive c = λ r h queue view word b. receive-asked r h queue b view word

pub returns-clause-transmit : goal.returns-clause-transmit
returns-clause-transmit c = λ r h queue view word b. transmit-asked r h queue b view word

pub returns-clause-read : goal.returns-clause-read
returns-clause-read c = enable_read
