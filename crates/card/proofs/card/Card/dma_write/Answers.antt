use Rattle.card.proofs.Moves.{written-shared}
use Rattle.card.proofs.card.Card.dma_write.Goals as goal

pub invariant_of-self : goal.invariant_of-self
invariant_of-self c =
    written-shared c.self.inside.device c.dma_write.new.self c.self.inside.arena c.dma_write.result c.args.bus
    c.args.bytes.now c.self.invariant c.dma_write.ensures.written c.dma_write.ensures.kept
