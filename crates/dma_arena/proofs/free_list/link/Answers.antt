use Rattle.std.proofs.Common.{Some, true, refl, ap, ◌∙◌}
use Rattle.std.specs.Prelude.{is_some}
use Rattle.dma_arena.proofs.Nodes.{marks_set}
use Rattle.dma_arena.proofs.Brought.{first_at, IsLinked-comes}
use Rattle.dma_arena.proofs.free_list.link.Goals as goal

pub links_at-after-requires : goal.links_at-after-requires
links_at-after-requires c = record {
  there =
      first_at c.args.ends.now c.args.slots.now c.args.place c.replace-former.new.self c.requires.linked
      c.requires.inside c.requires.in_use (c.replace-former.ensures.after ∙ ap Some c.of-block.ensures);
}

pub returns-clause-linked : goal.returns-clause-linked
returns-clause-linked c =
    IsLinked-comes c.args.ends.now c.args.slots.now c.args.place c.replace-former.new.self c.requires.linked
    c.requires.inside c.requires.in_use (c.replace-former.ensures.after ∙ ap Some c.of-block.ensures)
    c.links_at-after.result c.relink.new.ends c.relink.new.slots c.links_at-after.ensures c.relink.ensures.linked
    c.relink.ensures.marks

pub returns-clause-marks : goal.returns-clause-marks
returns-clause-marks c =
    c.relink.ensures.marks
    ∙ marks_set c.args.slots.now c.args.slots.now c.args.place c.replace-former.new.self true refl
    (ap is_some c.replace-former.ensures.after)
