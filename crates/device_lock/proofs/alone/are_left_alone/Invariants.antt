use Rattle.std.proofs.Common.{◌≡◌, false, drop}
use Rattle.nic_device.specs.VfMap.declared.mode.Mode.TheVariants.{Off}
use Rattle.device_lock.specs.Watching.{marked, rest_leaves_alone}
use Rattle.device_lock.proofs.alone.are_left_alone.Given as goal

abbrev pub invariant-loop-entry : goal.invariant-loop-entry
invariant-loop-entry l =
    rest_leaves_alone l.watched (marked l.blocks) Off false l.history
    ≡ rest_leaves_alone l.watched (marked l.blocks) l.mode l.begun (drop l.entry-index l.history)
