use Rattle.register_laws.proofs.Standing.{interrupts_of-with_interrupts}
use Rattle.register_laws.proofs.interrupts_stand.Goals as goal

pub returns : goal.returns
returns c =
    λ r h s consistent b causes enabled reported. interrupts_of-with_interrupts r h s b consistent causes enabled
    reported
