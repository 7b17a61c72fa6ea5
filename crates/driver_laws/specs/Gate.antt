-- A start on a queue of the device isn't refused with `DeviceFault` before any event.
use Rattle.std.specs.Prelude.{◌≢◌, Some, ℕ}
use Rattle.driver_laws.specs.Numbers.{NamesQueue}
use Rattle.driver_laws.specs.StartPrelude.{AtPort, DeviceFault, Numbers, State, start_gate}

-- If port and queue number identify a queue of the device, the start isn't refused with `DeviceFault` before any event.
abbrev pub NamedQueuesPass : Type 0
NamedQueuesPass =
    (s : State) (a : Numbers) (q : AtPort) (size frame queue : ℕ) → NamesQueue s q queue →
    start_gate a q size frame ≢ Some DeviceFault
