use Rattle.std.proofs.Common.{◌≡◌, ℕ, None}
use Rattle.std.specs.Vec.{vec_len}
use Rattle.dma_arena.specs.Shown.{at_place}
use Rattle.dma_arena.proofs.table.Table.end.Given as goal

abbrev pub invariant-loop-place : goal.invariant-loop-place
invariant-loop-place l = (number : ℕ) → at_place l.places.items number ≡ None

abbrev pub decreases-loop-place : goal.decreases-loop-place
decreases-loop-place l = vec_len l.places
