use Rattle.rx_filter.proofs.Unicast.{unicast_in}
use Rattle.rx_filter.proofs.laws.unicast_is_let_in.Goals as goal

pub returns : goal.returns
returns c = unicast_in
