use Rattle.dma_ring.proofs.Fields.{halves_come_back}
use Rattle.dma_ring.proofs.laws.halves_come_back.Goals as goal

pub returns : goal.returns
returns c = halves_come_back
