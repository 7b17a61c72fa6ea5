use Rattle.std.proofs.Common.{sym, subst}
use Rattle.nic_device.specs.Sound.{IsSound}
use Rattle.nic_device.proofs.Keeping.{sound-image}
use Rattle.nic_device.proofs.device.Device.install.Goals as goal

pub invariant_of-self : goal.invariant_of-self
invariant_of-self c =
    subst IsSound (sym c.install.ensures.installed)
    (sound-image c.self.inside.engine c.args.image c.self.invariant c.words-words.ensures.image)
