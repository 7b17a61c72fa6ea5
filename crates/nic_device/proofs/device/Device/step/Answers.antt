use Rattle.nic_device.proofs.Answering.{step_fits}
use Rattle.nic_device.proofs.Steps.{sound_step}
use Rattle.nic_device.proofs.device.Device.step.Goals as goal

pub invariant_of-self : goal.invariant_of-self
invariant_of-self c =
    sound_step c.self.inside.engine c.step.new.self c.args.event c.step.result c.step.ensures.state
    c.step.ensures.unchanged c.self.invariant c.is_of_a_driver.ensures

pub returns-clause-fits : goal.returns-clause-fits
returns-clause-fits c =
    step_fits c.self.inside.engine c.args.event c.step.result c.self.invariant c.is_of_a_driver.ensures
    c.step.ensures.reply
