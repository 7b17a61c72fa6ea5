use Rattle.rx_filter.proofs.Broadcast.{broadcast_ones, broadcast_in}
use Rattle.rx_filter.proofs.laws.broadcast_is_let_in.Goals as goal

pub returns-clause-destination : goal.returns-clause-destination
returns-clause-destination c = broadcast_ones

pub returns-clause-exact : goal.returns-clause-exact
returns-clause-exact c = broadcast_in
