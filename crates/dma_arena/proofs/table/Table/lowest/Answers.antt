use Rattle.std.proofs.Common.{◌<◌, refl, ◌∙◌, arith}
use Rattle.dma_arena.proofs.Filled.{filled_at, none_lent, no_lowest}
use Rattle.dma_arena.proofs.table.Table.lowest.Goals as goal

pub returns-then-self-eq-NONE_LENT-clause-none : goal.returns-then-self-eq-NONE_LENT-clause-none
returns-then-self-eq-NONE_LENT-clause-none c =
    (λ none. none_lent c.self.invariant c.self.view_is c.if-self-eq-NONE_LENT.true, λ empty. refl)

pub returns-clause-none : goal.returns-clause-none
returns-clause-none c =
    (λ none. cc, λ empty. absurd (c.if-self-eq-NONE_LENT.false (no_lowest c.self.invariant c.self.view_is empty)))

pub returns-clause-lent : goal.returns-clause-lent
returns-clause-lent c =
    let lt : c.self.inside.first < 65536 =
    omega (arith, c.self.invariant.lowest.small, c.if-self-eq-NONE_LENT.false) in
    filled_at c.self.invariant c.self.view_is c.self.inside.first ∙ c.self.invariant.lowest.here lt

pub returns-clause-least : goal.returns-clause-least
returns-clause-least c =
    λ q lt. filled_at c.self.invariant c.self.view_is q ∙ c.self.invariant.lowest.below q lt
