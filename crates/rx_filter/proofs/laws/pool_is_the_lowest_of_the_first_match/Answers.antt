use Rattle.rx_filter.proofs.Queues.{pool_of_a_frame}
use Rattle.rx_filter.proofs.laws.pool_is_the_lowest_of_the_first_match.Goals as goal

pub returns : goal.returns
returns c = pool_of_a_frame
