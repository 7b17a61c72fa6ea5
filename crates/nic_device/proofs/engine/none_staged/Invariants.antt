use Rattle.std.proofs.Common.{◌≡◌, [], replicate}
use Rattle.nic_device.proofs.engine.none_staged.Given as goal

abbrev pub invariant-loop-queue : goal.invariant-loop-queue
invariant-loop-queue l = l.staged.items ≡ replicate l._queue []
