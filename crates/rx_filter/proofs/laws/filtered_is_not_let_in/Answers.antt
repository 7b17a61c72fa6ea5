use Rattle.rx_filter.proofs.Filtered.{filtered}
use Rattle.rx_filter.proofs.laws.filtered_is_not_let_in.Goals as goal

pub returns : goal.returns
returns c = filtered
