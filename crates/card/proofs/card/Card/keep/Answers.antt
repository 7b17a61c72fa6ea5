use Rattle.std.proofs.Common.{◌∙◌}
use Rattle.card.proofs.Restoring.{kept-shared, kept-is}
use Rattle.card.proofs.card.Card.keep.Goals as goal

pub invariant_of-result : goal.invariant_of-result
invariant_of-result c =
    kept-shared c.self.inside.device c.in-Ok.device c.self.inside.arena c.count.result c.self.invariant
    c.in-Ok.ensures c.count.ensures

pub returns-in-Ok : goal.returns-in-Ok
returns-in-Ok c =
    kept-is c.self.inside.device c.in-Ok.device c.self.inside.arena c.count.result c.self.invariant
    c.in-Ok.ensures c.count.ensures ∙ c.self.view_is
