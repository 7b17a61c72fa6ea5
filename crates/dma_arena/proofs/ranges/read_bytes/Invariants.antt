use Rattle.std.proofs.Common.{length, ◌-◌, ◌+◌, ◌≡◌, ◌≤◌, true, take}
use Rattle.dma_arena.specs.Memory.{is_lent, read_at}
use Rattle.dma_arena.proofs.ranges.read_bytes.Given as goal

abbrev pub invariant-loop-done : goal.invariant-loop-done
invariant-loop-done l = record {
  below : l.done ≤ length l.bytes;
  lent : is_lent l.blocks (l.address + l.done) (length l.bytes - l.done) ≡ true;
  read : take l.done l.bytes ≡ read_at l.blocks l.address l.done;
}

abbrev pub decreases-loop-done : goal.decreases-loop-done
decreases-loop-done l = length l.bytes - l.done
