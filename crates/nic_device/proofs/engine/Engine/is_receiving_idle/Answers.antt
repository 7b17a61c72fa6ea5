use Rattle.std.proofs.Common.{sym, ◌∙◌}
use Rattle.nic_device.proofs.AtRest.{receiving_idle}
use Rattle.nic_device.proofs.engine.Engine.is_receiving_idle.Goals as goal

pub returns : goal.returns
returns c = λ is. receiving_idle c.args.self.now (sym c.none_waits.ensures ∙ is)
