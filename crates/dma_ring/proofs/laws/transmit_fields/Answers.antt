use Rattle.dma_ring.proofs.Fields.{command_is_asked, done_is_set}
use Rattle.dma_ring.proofs.laws.transmit_fields.Goals as goal

pub returns-clause-command : goal.returns-clause-command
returns-clause-command c = command_is_asked

pub returns-clause-done : goal.returns-clause-done
returns-clause-done c = done_is_set
