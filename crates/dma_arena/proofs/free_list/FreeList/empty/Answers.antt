use Rattle.std.proofs.Common.{◌≤◌, arith, refl, sym}
use Rattle.dma_arena.specs.Links.{list_end}
use Rattle.dma_arena.proofs.Emptied.{IsLinked-empty, none_free}
use Rattle.dma_arena.proofs.free_list.FreeList.empty.Goals as goal

pub invariant_of-result : goal.invariant_of-result
invariant_of-result c =
    let small : c.loop-made._made ≤ list_end = omega (arith, c.loop-made.invariant.below, c.requires) in
    let linked = IsLinked-empty c.loop-made._made small in
    rw c.loop-made.invariant.none (linked, sym (none_free _ _ linked refl))
