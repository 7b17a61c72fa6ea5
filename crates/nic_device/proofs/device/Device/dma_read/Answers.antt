use Rattle.std.proofs.Common.{sym, subst, ◌∙◌}
use Rattle.nic_device.specs.Bus.{PeeksTell}
use Rattle.nic_device.specs.State.{State}
use Rattle.nic_device.proofs.Ranges.{peeks-read}
use Rattle.nic_device.proofs.device.Device.dma_read.Goals as goal

pub returns-clause-peeks : goal.returns-clause-peeks
returns-clause-peeks c n done aligned long =
    let at = c.read_range.ensures in
    subst (λ (s : State). PeeksTell s c.args.bus n c.read_range.new.bytes) c.self.view_is
    (peeks-read c.self.inside.engine c.args.bus _ n _ (sym at.lent ∙ done) (at.read done) aligned long)
