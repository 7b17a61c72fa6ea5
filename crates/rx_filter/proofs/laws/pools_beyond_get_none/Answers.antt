use Rattle.rx_filter.proofs.Queues.{beyond_none}
use Rattle.rx_filter.proofs.laws.pools_beyond_get_none.Goals as goal

pub returns : goal.returns
returns c = beyond_none
