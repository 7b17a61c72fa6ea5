use Rattle.rx_ring.proofs.Fills.{driver_reads}
use Rattle.rx_ring.proofs.laws.read_back.Goals as goal

pub returns : goal.returns
returns c = driver_reads
