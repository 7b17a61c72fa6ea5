use Rattle.register_laws.proofs.SideWords.{receive-with_head, transmit-with_head}
use Rattle.register_laws.proofs.moved_head_is_the_head.Goals as goal

pub returns-clause-receive : goal.returns-clause-receive
returns-clause-receive c = λ r h queue head b small. receive-with_head r h queue b head small

pub returns-clause-transmit : goal.returns-clause-transmit
returns-clause-transmit c = λ r h queue head b small. transmit-with_head r h queue b head small
