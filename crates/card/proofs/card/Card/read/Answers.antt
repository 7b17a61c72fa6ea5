use Rattle.std.proofs.Common.{refl}
use Rattle.card.proofs.Moves.{made-tried}
use Rattle.card.proofs.card.Card.read.Goals as goal

pub invariant_of-self : goal.invariant_of-self
invariant_of-self c =
    made-tried c.self.inside.device c.step.new.self c.self.inside.arena _ c.step.result c.self.invariant refl
    c.step.ensures.state c.step.ensures.unchanged
