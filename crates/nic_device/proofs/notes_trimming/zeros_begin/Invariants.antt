use Rattle.std.proofs.Common.{◌≡◌, ℕ, ◌≤◌, length, get_or}
use Rattle.nic_device.proofs.notes_trimming.zeros_begin.Given as goal

abbrev pub invariant-loop-end : goal.invariant-loop-end
invariant-loop-end l = (l.end ≤ length l.bytes) × ((k : ℕ) → l.end ≤ k → get_or l.bytes k 0 ≡ 0)

abbrev pub decreases-loop-end : goal.decreases-loop-end
decreases-loop-end l = l.end
