use Rattle.dma_arena.proofs.Blocks.{InsideBlock-of_get}
use Rattle.dma_arena.proofs.laws.inside_block.Goals as goal

pub returns : goal.returns
returns c = InsideBlock-of_get
