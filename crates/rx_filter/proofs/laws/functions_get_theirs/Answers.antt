use Rattle.rx_filter.proofs.Queues.{functions_queues}
use Rattle.rx_filter.proofs.laws.functions_get_theirs.Goals as goal

pub returns : goal.returns
returns c = functions_queues
