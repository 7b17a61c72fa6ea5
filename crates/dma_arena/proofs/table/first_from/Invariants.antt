use Rattle.std.proofs.Common.{◌-◌, length}
use Rattle.dma_arena.specs.Shown.{NoneBelow}
use Rattle.dma_arena.proofs.table.first_from.Given as goal

abbrev pub invariant-loop-place : goal.invariant-loop-place
invariant-loop-place l = NoneBelow l.places l.place

abbrev pub decreases-loop-place : goal.decreases-loop-place
decreases-loop-place l = length l.places - l.place
