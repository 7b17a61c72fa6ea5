use Rattle.machine.proofs.Steps.{leads-tried}
use Rattle.machine.proofs.machine.Machine.step.Goals as goal

pub invariant_of-self : goal.invariant_of-self
invariant_of-self c =
    leads-tried c.self.inside.program c.self.inside.config _ _ c.step.result c.self.invariant c.step.ensures.state
    c.step.ensures.unchanged
