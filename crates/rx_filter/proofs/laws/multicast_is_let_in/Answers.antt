use Rattle.rx_filter.proofs.Multicast.{multicast_in}
use Rattle.rx_filter.proofs.laws.multicast_is_let_in.Goals as goal

pub returns : goal.returns
returns c = multicast_in
