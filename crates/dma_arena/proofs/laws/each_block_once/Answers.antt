use Rattle.dma_arena.proofs.Places.{moves_keep_each_once}
use Rattle.dma_arena.proofs.laws.each_block_once.Goals as goal

pub returns : goal.returns
returns c = moves_keep_each_once
