use Rattle.std.proofs.Common.{◌≡◌, take}
use Rattle.nic_device.proofs.state_copy.copied_staged.Given as goal

abbrev pub invariant-loop-bytes : goal.invariant-loop-bytes
invariant-loop-bytes l = l.copies.items ≡ take l.bytes-index l.staged
