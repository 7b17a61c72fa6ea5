use Rattle.std.proofs.Common.{subst, sym, ◌∙◌}
use Rattle.nic_device.specs.Resting.{Rests}
use Rattle.nic_device.specs.State.{State}
use Rattle.nic_device.proofs.AtRest.{at_rest_idle}
use Rattle.nic_device.proofs.device.Device.is_at_rest.Goals as goal

pub returns-clause-idle : goal.returns-clause-idle
returns-clause-idle c =
    λ is. subst (λ (s : State). Rests s c.args.queue) c.self.view_is
    (at_rest_idle c.self.inside.engine c.args.queue (sym c.is_at_rest.ensures ∙ is))
