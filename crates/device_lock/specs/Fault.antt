-- The event in a refused call's error.
use Rattle.device_lock.specs.declared.fault.CallFault.{CallFault}
use Rattle.device_lock.specs.declared.fault.CallFault.TheVariants.{ForeignPass, HistoryFull, OutOfMemory}

-- The event that a refusal returns.
abbrev pub event_of : {E : Type 0} → CallFault E → E
event_of (ForeignPass event) = event
event_of (HistoryFull event) = event
event_of (OutOfMemory event) = event

-- The same refusal with its event replaced.
abbrev pub fault_with : {E F : Type 0} → CallFault E → F → CallFault F
fault_with (ForeignPass event) other = ForeignPass other
fault_with (HistoryFull event) other = HistoryFull other
fault_with (OutOfMemory event) other = OutOfMemory other
