use Rattle.rx_filter.proofs.Sorted.{taken-sorted}
use Rattle.rx_filter.proofs.laws.off_pools_get_none.Goals as goal

pub returns : goal.returns
returns c = taken-sorted
