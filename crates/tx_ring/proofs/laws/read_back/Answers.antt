use Rattle.tx_ring.proofs.Reported.{driver_reads}
use Rattle.tx_ring.proofs.laws.read_back.Goals as goal

pub returns : goal.returns
returns c = driver_reads
