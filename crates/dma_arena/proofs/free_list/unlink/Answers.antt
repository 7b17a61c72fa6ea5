use Rattle.std.proofs.Common.{◌≡◌, ◌≢◌, ◌<◌, length, true, false, None, get_or, sym, ap, ◌∙◌, arith}
use Rattle.std.specs.Prelude.{is_some}
use Rattle.dma_arena.specs.Links.{list_end}
use Rattle.dma_arena.proofs.Nodes.{nodes-block, within, any_default, marked_same, marks_set}
use Rattle.dma_arena.proofs.Unlinked.{IsLinked-leaves}
use Rattle.dma_arena.proofs.free_list.unlink.Goals as goal

pub links_at-links-requires : goal.links_at-links-requires
links_at-links-requires c =
    let lt : c.args.place < length c.args.slots.now = within c.args.slots.now c.args.place c.requires.free in
    let apart : c.args.place ≢ list_end = λ is. absurd (omega (arith, lt, c.requires.linked.small, is)) in
    record {
      there = ap is_some (nodes-block c.args.ends.now c.args.slots.now c.args.place apart) ∙ c.requires.free;
    }

pub unreachable-requires : goal.unreachable-requires
unreachable-requires c =
    let h : is_some (get_or c.relink-2.new.slots c.args.place None) ≡ true =
    marked_same c.relink-2.new.slots c.args.slots.now c.args.place (c.relink-2.ensures.marks ∙ c.relink.ensures.marks)
    ∙ c.requires.free in
    let lt : c.args.place < length c.relink-2.new.slots = within c.relink-2.new.slots c.args.place h in
    let e : get_or c.relink-2.new.slots c.args.place None ≡ None =
    sym (any_default c.relink-2.new.slots c.args.place c.index-slots-place.result lt)
    ∙ sym c.take.ensures.value ∙ c.in_default.is in
    let x : false ≡ true = ap is_some (sym e) ∙ h in cc

pub returns-clause-linked : goal.returns-clause-linked
returns-clause-linked c =
    IsLinked-leaves c.args.ends.now c.relink.new.ends c.relink-2.new.ends
    c.args.slots.now c.relink.new.slots c.relink-2.new.slots c.args.place c.take.new.self
    c.links_at-links.result c.links_at-before.result c.links_at-after.result
    c.requires.linked c.requires.free c.links_at-links.ensures c.links_at-before.ensures c.relink.ensures.linked
    c.links_at-after.ensures c.relink-2.ensures.linked (c.relink-2.ensures.marks ∙ c.relink.ensures.marks)
    c.take.ensures.after

pub returns-clause-marks : goal.returns-clause-marks
returns-clause-marks c =
    marks_set c.relink-2.new.slots c.args.slots.now c.args.place c.take.new.self false
    (c.relink-2.ensures.marks ∙ c.relink.ensures.marks) (ap is_some c.take.ensures.after)
