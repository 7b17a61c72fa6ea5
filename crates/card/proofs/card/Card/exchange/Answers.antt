use Rattle.card.proofs.Moves.{exchanged-shared}
use Rattle.card.proofs.card.Card.exchange.Goals as goal

pub invariant_of-self : goal.invariant_of-self
invariant_of-self c =
    let at = c.exchange.ensures in
    exchanged-shared c.self.inside.device c.exchange.new.self c.self.inside.arena c.args.block c.args.memory.value
    c.exchange.result c.self.invariant at.ok.0 at.put at.kept
