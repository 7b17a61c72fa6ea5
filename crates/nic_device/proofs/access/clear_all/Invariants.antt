use Rattle.std.proofs.Common.{◌≡◌, [], replicate, ◌++◌, drop}
use Rattle.nic_device.proofs.access.clear_all.Given as goal

abbrev pub invariant-loop-queue : goal.invariant-loop-queue
invariant-loop-queue l = l.staged ≡ replicate l.queue [] ++ drop l.queue l.fn.staged
