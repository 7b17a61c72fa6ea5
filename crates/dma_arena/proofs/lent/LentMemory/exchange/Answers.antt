use Rattle.std.proofs.Common.{sym, ◌∙◌, ap, length}
use Rattle.dma_arena.proofs.Bus.{small_of_lent}
use Rattle.dma_arena.proofs.Moves.{IsWhole-insert}
use Rattle.dma_arena.proofs.lent.LentMemory.exchange.Goals as goal

pub invariant_of-self : goal.invariant_of-self
invariant_of-self c =
    rw c.exchange.ensures.put
    (IsWhole-insert c.self.inside.blocks c.args.block c.args.memory.value c.self.invariant (record {
      size = ap length (sym c.deref.ensures) ∙ c.if-prove.false;
      small = small_of_lent c.self.inside.blocks c.args.block c.self.invariant
          (sym c.has.ensures ∙ c.if-not-has.false);
    }))
