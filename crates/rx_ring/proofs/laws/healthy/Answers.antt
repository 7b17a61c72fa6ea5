use Rattle.rx_ring.proofs.Tests.{fill_healthy}
use Rattle.rx_ring.proofs.laws.healthy.Goals as goal

pub returns : goal.returns
returns c = fill_healthy
