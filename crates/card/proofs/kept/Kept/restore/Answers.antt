use Rattle.std.proofs.Common.{◌≡◌, OnOk, subst, ◌∙◌}
use Rattle.card.specs.Card.{Holdings}
use Rattle.card.proofs.Restoring.{tried-is, tried-shared}
use Rattle.card.proofs.kept.Kept.restore.Goals as goal

pub invariant_of-card : goal.invariant_of-card
invariant_of-card c =
    tried-shared c.card.inside.device c.self.inside.device c.go_back.new.self c.card.inside.arena c.go_back.new.arena
    c.self.inside.blocks c.go_back.result c.card.invariant (c.if-self-count.true ∙ c.count.ensures)
    c.go_back.ensures.restored c.go_back.ensures.left c.go_back.ensures.unchanged c.go_back.ensures.kept

pub returns-then-has_blocks_of-clause-restored : goal.returns-then-has_blocks_of-clause-restored
returns-then-has_blocks_of-clause-restored c =
    subst (λ (h : Holdings). OnOk c.go_back.result
    ((let now : Holdings = record { device = c.go_back.new.self; arena = c.go_back.new.arena } in now) ≡ h))
    c.self.view_is
    (tried-is c.card.inside.device c.self.inside.device c.go_back.new.self c.card.inside.arena c.go_back.new.arena
    c.self.inside.blocks c.go_back.result c.card.invariant (c.if-self-count.true ∙ c.count.ensures)
    c.go_back.ensures.restored c.go_back.ensures.left)
