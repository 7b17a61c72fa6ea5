-- After every event, reported bits are pending, and an event whose reply is a fault leaves memory unchanged.
use Rattle.nic_device.proofs.Steps.{step_leads, keeps_sound}
use Rattle.device_laws.specs.Laws.{ReportedIsPending, FaultChangesNoMemory}

pub reported_pending : ReportedIsPending
reported_pending s h e is g small = (keeps_sound s h e is).registers.reported g small

pub fault_memory : FaultChangesNoMemory
fault_memory s e fault = (step_leads s e).faults fault
