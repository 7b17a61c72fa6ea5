use Rattle.std.proofs.Common.{sym, subst, arith}
use Rattle.nic_device.specs.Sound.{IsSound}
use Rattle.nic_device.proofs.Steps.{new_sound}
use Rattle.nic_device.proofs.device.Device.new.Goals as goal

pub invariant_of-result : goal.invariant_of-result
invariant_of-result c =
    subst IsSound (sym c.in_ok-engine.ensures)
    (new_sound c.args.config.vfs c.args.config.fifo (omega arith) (omega arith) (omega arith))
