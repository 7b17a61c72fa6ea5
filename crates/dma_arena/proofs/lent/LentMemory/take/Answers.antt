use Rattle.dma_arena.proofs.Moves.{IsWhole-remove}
use Rattle.dma_arena.proofs.lent.LentMemory.take.Goals as goal

pub invariant_of-self : goal.invariant_of-self
invariant_of-self c = rw c.remove.ensures.left (IsWhole-remove c.self.inside.blocks c.args.block c.self.invariant)
