use Rattle.std.specs.Vec.{vec_len}
use Rattle.dma_arena.proofs.free_list.FreeList.free_all.Given as goal

abbrev pub decreases-loop-slot : goal.decreases-loop-slot
decreases-loop-slot l = vec_len l.slots
