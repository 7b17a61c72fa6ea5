use Rattle.dma_arena.proofs.Moves.{IsWhole-empty}
use Rattle.dma_arena.proofs.lent.LentMemory.new.Goals as goal

pub invariant_of-result : goal.invariant_of-result
invariant_of-result c = rw c.new.ensures IsWhole-empty
