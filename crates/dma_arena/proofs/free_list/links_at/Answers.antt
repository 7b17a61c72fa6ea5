use Rattle.std.proofs.Common.{◌≡◌, true, false, None, Some, get_or, sym, ap, ◌∙◌}
use Rattle.std.specs.Prelude.{is_some}
use Rattle.dma_arena.proofs.Nodes.{nodes-end, nodes-block, within, any_default}
use Rattle.dma_arena.proofs.free_list.links_at.Goals as goal

pub returns-then-place-eq-END : goal.returns-then-place-eq-END
returns-then-place-eq-END c = nodes-end c.args.ends c.args.slots.now c.args.place c.if-place-eq-END.true

pub bounds-slots-place : goal.bounds-slots-place
bounds-slots-place c =
    within c.args.slots.now c.args.place
    (ap is_some (sym (nodes-block c.args.ends c.args.slots.now c.args.place c.if-place-eq-END.false))
    ∙ c.requires.there)

pub unreachable-requires : goal.unreachable-requires
unreachable-requires c =
    let h : is_some (get_or c.args.slots.now c.args.place None) ≡ true =
    ap is_some (sym (nodes-block c.args.ends c.args.slots.now c.args.place c.if-place-eq-END.false))
    ∙ c.requires.there in
    let e : get_or c.args.slots.now c.args.place None ≡ None =
    ap (get_or c.args.slots.now c.args.place) (sym c.in-None.is) ∙ sym c.index-slots-place.is ∙ c.in-None.is in
    let x : false ≡ true = ap is_some (sym e) ∙ h in cc

pub returns : goal.returns
returns c =
    let h : is_some (get_or c.args.slots.now c.args.place None) ≡ true =
    ap is_some (sym (nodes-block c.args.ends c.args.slots.now c.args.place c.if-place-eq-END.false))
    ∙ c.requires.there in
    nodes-block c.args.ends c.args.slots.now c.args.place c.if-place-eq-END.false
    ∙ sym (any_default c.args.slots.now c.args.place c.index-slots-place.result
    (within c.args.slots.now c.args.place h))
    ∙ sym c.index-slots-place.is ∙ c.in-Some.is ∙ ap Some (sym c.links.ensures)
