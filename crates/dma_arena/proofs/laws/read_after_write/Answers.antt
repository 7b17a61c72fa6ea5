use Rattle.dma_arena.proofs.Bus.{read_at-write_at_same}
use Rattle.dma_arena.proofs.laws.read_after_write.Goals as goal

pub returns : goal.returns
returns c = read_at-write_at_same
