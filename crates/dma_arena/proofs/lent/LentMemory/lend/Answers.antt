use Rattle.dma_arena.proofs.Moves.{IsWhole-insert}
use Rattle.dma_arena.proofs.lent.LentMemory.lend.Goals as goal
use Rattle.dma_arena.proofs.lent.LentMemory.lend.Goals.{in-Ok, in-Err}

pub invariant_of-self : goal.invariant_of-self
invariant_of-self c = elim c.match-insert.branch [
  | in-Ok w ↦
      rw w.in-Ok.ensures.lent
      (IsWhole-insert c.self.inside.blocks c.args.buf.number c.args.buf.bytes c.self.invariant c.bytes.ensures.whole)
  | in-Err w ↦ rw w.in-Err.ensures.kept c.self.invariant
]
