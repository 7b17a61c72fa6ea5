use Rattle.dma_arena.proofs.Inside.{inside_avoids, reads_its_block}
use Rattle.dma_arena.proofs.laws.block_apart.Goals as goal

pub returns-clause-avoided : goal.returns-clause-avoided
returns-clause-avoided c = inside_avoids

pub returns-clause-read : goal.returns-clause-read
returns-clause-read c = reads_its_block
