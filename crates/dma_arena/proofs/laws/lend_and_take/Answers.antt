use Rattle.dma_arena.proofs.Moves.{byte_at-insert_other, byte_at-remove_other}
use Rattle.dma_arena.proofs.laws.lend_and_take.Goals as goal

pub returns : goal.returns
returns c = λ m number bytes at ne. (byte_at-insert_other m number bytes at ne, byte_at-remove_other m number at ne)
