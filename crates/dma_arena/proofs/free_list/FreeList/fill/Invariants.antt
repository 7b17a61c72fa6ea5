use Rattle.std.proofs.Common.{◌≡◌, ℕ, ◌<◌, ◌≤◌, ◌+◌, ◌-◌, length, get_or, true, false}
use Rattle.dma_arena.proofs.Emptied.{filled}
use Rattle.dma_arena.proofs.free_list.FreeList.fill.Given as goal

abbrev pub invariant-loop-left : goal.invariant-loop-left
invariant-loop-left l = record {
  below : l.left ≤ length l.initial.self;
  filled : l.self ≡ filled l.left (length l.initial.self - l.left);
  there : (k : ℕ) → k < l.left → get_or l.other (l.from + k) false ≡ true;
  kept : (p : ℕ) → l.from + length l.initial.self ≤ p → get_or l.other p false ≡ get_or l.initial.other p false;
}

abbrev pub decreases-loop-left : goal.decreases-loop-left
decreases-loop-left l = l.left
