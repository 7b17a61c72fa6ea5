use Rattle.std.proofs.Common.{get_or, false, sym, ap, ◌∙◌}
use Rattle.std.specs.Prelude.{count_by}
use Rattle.dma_arena.proofs.Owned.{set_within}
use Rattle.dma_arena.proofs.Emptied.{none_free, first_free}
use Rattle.dma_arena.proofs.free_list.FreeList.first.Goals as goal

pub returns-then-self-eq-END-clause-none : goal.returns-then-self-eq-END-clause-none
returns-then-self-eq-END-clause-none c =
    ap (count_by (λ free. free)) (sym c.self.view_is)
    ∙ none_free c.self.inside.ends c.self.inside.slots.items c.self.invariant.0 c.if-self-eq-END.true

pub returns-else-self-eq-END-clause-free : goal.returns-else-self-eq-END-clause-free
returns-else-self-eq-END-clause-free c =
    ap (λ marks. get_or marks c.self.inside.ends.next false) (sym c.self.view_is)
    ∙ first_free c.self.inside.ends c.self.inside.slots.items c.self.invariant.0 c.if-self-eq-END.false

pub returns-else-self-eq-END-clause-small : goal.returns-else-self-eq-END-clause-small
returns-else-self-eq-END-clause-small c =
    set_within c.args.self.now c.self.inside.ends.next
    (ap (λ marks. get_or marks c.self.inside.ends.next false) (sym c.self.view_is)
    ∙ first_free c.self.inside.ends c.self.inside.slots.items c.self.invariant.0 c.if-self-eq-END.false)
