use Rattle.std.proofs.Common.{◌≡◌, true, false, ap, subst, ◌∙◌}
use Rattle.nic_device.specs.Blocks.{IsLowestTaken}
use Rattle.nic_device.specs.DmaArena.Numbers.{Numbers, are_all_free}
use Rattle.card.proofs.Restoring.{new-unused, never-taken, restored-shared, restored-is}
use Rattle.card.proofs.kept.Kept.card.Goals as goal

pub unreachable-requires : goal.unreachable-requires
unreachable-requires c =
    let why = rw c.in-Err-NotFree.field-0-is at c.in-Err-NotFree.ensures.why in
    let is = subst (λ (a : Numbers). IsLowestTaken a c.self.inside.device.memory c.in-Err-NotFree._block)
    c.in-Ok.ensures.ok why in
    let no : true ≡ false = never-taken c.self.inside.device.memory c.self.inside.blocks c.in-Err-NotFree._block
    c.self.invariant is in cc

pub end_arena-requires : goal.end_arena-requires
end_arena-requires c =
    ap are_all_free (c.in-Err-OutOfMemory.ensures.kept ∙ c.in-Ok.ensures.ok) ∙ new-unused c.self.inside.blocks

pub invariant_of-result : goal.invariant_of-result
invariant_of-result c =
    restored-shared c.self.inside.device c.in-Ok-restore.device c.in-Ok.arena c.restore.new.arena
    c.self.inside.blocks c.in-Ok.ensures.ok c.in-Ok-restore.ensures.restored c.in-Ok-restore.ensures.left

pub returns-in-Ok-restore : goal.returns-in-Ok-restore
returns-in-Ok-restore c =
    restored-is c.self.inside.device c.in-Ok-restore.device c.in-Ok.arena c.restore.new.arena
    c.self.inside.blocks c.in-Ok.ensures.ok c.in-Ok-restore.ensures.restored c.in-Ok-restore.ensures.left
    ∙ c.self.view_is
