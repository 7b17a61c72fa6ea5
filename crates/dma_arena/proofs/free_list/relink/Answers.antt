use Rattle.std.proofs.Common.{◌≡◌, ◌<◌, length, true, false, None, Some, get_or, sym, ap, ◌∙◌}
use Rattle.std.specs.Prelude.{is_some}
use Rattle.std.proofs.lemmas.List.{length-set, get_or-set_same}
use Rattle.dma_arena.proofs.Nodes.{nodes-block, within, any_default, marks_same, Relinked-end, Relinked-again}
use Rattle.dma_arena.proofs.free_list.relink.Goals as goal

pub returns-then-place-eq-END-clause-linked : goal.returns-then-place-eq-END-clause-linked
returns-then-place-eq-END-clause-linked c =
    Relinked-end c.args.ends.now c.args.slots.now c.args.place c.args.links c.if-place-eq-END.true

pub bounds-slots-place : goal.bounds-slots-place
bounds-slots-place c =
    within c.args.slots.now c.args.place
    (ap is_some (sym (nodes-block c.args.ends.now c.args.slots.now c.args.place c.if-place-eq-END.false))
    ∙ c.requires.there)

pub unreachable-requires : goal.unreachable-requires
unreachable-requires c =
    let h : is_some (get_or c.args.slots.now c.args.place None) ≡ true =
    ap is_some (sym (nodes-block c.args.ends.now c.args.slots.now c.args.place c.if-place-eq-END.false))
    ∙ c.requires.there in
    let lt : c.args.place < length c.args.slots.now = within c.args.slots.now c.args.place h in
    let e : get_or c.args.slots.now c.args.place None ≡ None =
    sym (any_default c.args.slots.now c.args.place c.index-slots-place.result lt)
    ∙ sym c.take.ensures.value ∙ c.in_default.is in
    let x : false ≡ true = ap is_some (sym e) ∙ h in cc

pub bounds-slots-place-2 : goal.bounds-slots-place-2
bounds-slots-place-2 c =
    rw (length-set c.args.slots.now c.args.place c.take.new.self)
    (within c.args.slots.now c.args.place
    (ap is_some (sym (nodes-block c.args.ends.now c.args.slots.now c.args.place c.if-place-eq-END.false))
    ∙ c.requires.there))

pub unreachable-requires-in-Some-former : goal.unreachable-requires-in-Some-former
unreachable-requires-in-Some-former c =
    let lt : c.args.place < length c.args.slots.now =
    within c.args.slots.now c.args.place
    (ap is_some (sym (nodes-block c.args.ends.now c.args.slots.now c.args.place c.if-place-eq-END.false))
    ∙ c.requires.there) in
    let e : Some c.in-Some-former.field-0 ≡ None =
    sym c.in-Some-former.is ∙ c.replace-former.ensures.value
    ∙ get_or-set_same c.args.slots.now c.args.place c.take.new.self c.index-slots-place-2.result lt
    ∙ c.take.ensures.after in
    let x : true ≡ false = ap is_some e in cc

pub returns-clause-linked : goal.returns-clause-linked
returns-clause-linked c =
    let lt : c.args.place < length c.args.slots.now =
    within c.args.slots.now c.args.place
    (ap is_some (sym (nodes-block c.args.ends.now c.args.slots.now c.args.place c.if-place-eq-END.false))
    ∙ c.requires.there) in
    Relinked-again c.args.ends.now c.args.slots.now c.args.place c.take.new.self c.replace-former.new.self c.args.links
    c.if-place-eq-END.false lt (c.replace-former.ensures.after ∙ ap Some c.of.ensures)

pub returns-clause-marks : goal.returns-clause-marks
returns-clause-marks c =
    marks_same c.args.slots.now c.args.place c.take.new.self c.replace-former.new.self
    (ap is_some (sym (nodes-block c.args.ends.now c.args.slots.now c.args.place c.if-place-eq-END.false))
    ∙ c.requires.there)
    (ap is_some c.replace-former.ensures.after)
