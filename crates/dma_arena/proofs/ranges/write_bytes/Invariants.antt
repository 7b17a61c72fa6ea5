use Rattle.std.proofs.Common.{length, ◌-◌, ◌+◌, ◌≡◌, ◌≤◌, true, take}
use Rattle.dma_arena.specs.Memory.{is_lent, write_at, IsWhole}
use Rattle.dma_arena.proofs.ranges.write_bytes.Given as goal

abbrev pub invariant-loop-done : goal.invariant-loop-done
invariant-loop-done l = record {
  whole : IsWhole l.blocks;
  below : l.done ≤ length l.bytes;
  lent : is_lent l.blocks (l.address + l.done) (length l.bytes - l.done) ≡ true;
  written : l.blocks ≡ write_at l.initial.blocks l.address (take l.done l.bytes);
}

abbrev pub decreases-loop-done : goal.decreases-loop-done
decreases-loop-done l = length l.bytes - l.done
