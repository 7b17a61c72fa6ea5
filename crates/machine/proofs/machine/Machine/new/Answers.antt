use Rattle.std.proofs.Common.{ap, ◌∙◌}
use Rattle.machine.proofs.Steps.{leads-new}
use Rattle.machine.proofs.machine.Machine.new.Goals as goal
use Rattle.machine.specs.Machine.{status_at}
use Rattle.machine.specs.Processor.{state_with}

pub invariant_of-result : goal.invariant_of-result
invariant_of-result c =
    leads-new c.args.program c.args.config c.in-Ok.card _ c.in-Ok.ensures.made c.new-processor.ensures

pub returns-clause-made : goal.returns-clause-made
returns-clause-made c =
    ap (λ s. record { program = c.args.program; config = c.args.config; state = s })
    (c.new-processor.ensures
    ∙ ap (λ card. state_with card 0 0 (status_at c.args.program 0) 0) c.in-Ok.ensures.made)
