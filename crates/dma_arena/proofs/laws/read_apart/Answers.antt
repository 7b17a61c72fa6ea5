use Rattle.dma_arena.proofs.Bus.{read_at-write_at_apart}
use Rattle.dma_arena.proofs.laws.read_apart.Goals as goal

pub returns : goal.returns
returns c = read_at-write_at_apart
