use Rattle.dma_arena.proofs.Bus.{get_or-read_at}
use Rattle.dma_arena.proofs.laws.read.Goals as goal

pub returns : goal.returns
returns c = get_or-read_at
