use Rattle.rx_filter.proofs.Sorted.{sorted-single}
use Rattle.rx_filter.proofs.laws.single_queue_is_queue_0.Goals as goal

pub returns : goal.returns
returns c = sorted-single
