-- Tests of a worker's result.
use Rattle.std.specs.Prelude.{Bool, true, false, Option, Some, None, Result, Ok, Err}
use Rattle.pmd_driver.specs.PmdAccess.declared.fault.PmdFault.{PmdFault}
use Rattle.pmd_driver.specs.declared.start.Rest.{Rest}
use Rattle.pmd_driver.specs.declared.start.Rest.TheVariants.{Home, Running}
use Rattle.pmd.specs.declared.fault.WorkerFault.{WorkerFault}
use Rattle.pmd.specs.declared.fault.WorkerFault.TheVariants.{Pmd, GateShut, NoThread}

-- Whether the arena was returned.
abbrev pub is_home : Rest → Bool
is_home (Home h) = true
is_home (Running p) = false

-- Whether the fault says that no thread was created.
abbrev pub is_threadless : WorkerFault → Bool
is_threadless NoThread = true
is_threadless other = false

-- Whether the fault says that the gate was shut to the worker.
abbrev pub is_shut_out : WorkerFault → Bool
is_shut_out GateShut = true
is_shut_out other = false

-- The fault that ended the worker's rounds early. If there is none, the fault with which the stop failed, if any.
abbrev pub first_fault : Result (Unit {0}) WorkerFault → Option PmdFault → Option WorkerFault
first_fault (Err fault) late = Some fault
first_fault (Ok done) None = None
first_fault (Ok done) (Some fault) = Some (Pmd fault)
