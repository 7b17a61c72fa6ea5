use Rattle.std.proofs.Common.{length, ◌-◌, ◌+◌, ◌≡◌, ◌≤◌, ◌++◌, true}
use Rattle.std.specs.Vec.{vec_capacity}
use Rattle.dma_arena.specs.Memory.{is_lent, read_at}
use Rattle.dma_arena.proofs.ranges.append_bytes.Given as goal

abbrev pub invariant-loop-done : goal.invariant-loop-done
invariant-loop-done l = record {
  below : l.done ≤ l.len;
  lent : is_lent l.blocks (l.address + l.done) (l.len - l.done) ≡ true;
  room : length l.bytes.items + (l.len - l.done) ≤ vec_capacity l.bytes;
  kept : vec_capacity l.fn.bytes ≤ vec_capacity l.bytes;
  read : l.bytes.items ≡ l.fn.bytes.items ++ read_at l.blocks l.address l.done;
}

abbrev pub decreases-loop-done : goal.decreases-loop-done
decreases-loop-done l = l.len - l.done
