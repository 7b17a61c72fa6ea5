use Rattle.std.proofs.Common.{◌≡◌, ◌++◌, take}
use Rattle.nic_device.proofs.state_copy.add_waiting.Given as goal

abbrev pub invariant-loop-frame : goal.invariant-loop-frame
invariant-loop-frame l = l.copies.items ≡ l.fn.copies.items ++ take l.frame-index l.waiting
