-- The state that the fields of a machine represent.
use Rattle.std.specs.Prelude.{◌≡◌, ℕ}
use Rattle.nic_device.specs.declared.Config.{Config}
use Rattle.card.specs.Card.{Holdings}
use Rattle.program.specs.Listing.{Listing}
use Rattle.machine.specs.MachineState.{MachineState}
use Rattle.machine.specs.Machine.{machine_at}
use Rattle.machine.specs.declared.machine.Status.{Status}
use Rattle.machine.specs.declared.processor.Processor.{Processor}

abbrev pub state_with : (card : Holdings) (pc acc : ℕ) (status : Status) (steps : ℕ) → MachineState
state_with card pc acc status steps =
    record { device = card.device; arena = card.arena; pc = pc; acc = acc; status = status; steps = steps }

abbrev pub state_of : Processor → MachineState
state_of processor = state_with processor.card processor.pc processor.acc processor.status processor.steps

-- The machine's state is the one after its counted steps.
abbrev pub IsWhereStepsLead : Listing → Config → MachineState → Type 0
IsWhereStepsLead program config s = s ≡ machine_at program config s.steps
