use Rattle.dma_arena.proofs.Bus.{byte_at-write_at_other, SameLent-write_at, IsWhole-write_at}
use Rattle.dma_arena.proofs.Blocks.{get-write_at_out}
use Rattle.dma_arena.proofs.laws.write.Goals as goal

pub returns-clause-bytes : goal.returns-clause-bytes
returns-clause-bytes c = byte_at-write_at_other

pub returns-clause-blocks : goal.returns-clause-blocks
returns-clause-blocks c = λ m a bytes. (SameLent-write_at m a bytes, IsWhole-write_at m a bytes)

pub returns-clause-avoided : goal.returns-clause-avoided
returns-clause-avoided c = get-write_at_out
