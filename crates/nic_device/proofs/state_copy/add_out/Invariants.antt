use Rattle.std.proofs.Common.{◌≡◌, ◌++◌, take}
use Rattle.nic_device.proofs.state_copy.add_out.Given as goal

abbrev pub invariant-loop-queue : goal.invariant-loop-queue
invariant-loop-queue l = l.copies.items ≡ l.fn.copies.items ++ take l.queue-index l.out
