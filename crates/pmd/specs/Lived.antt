-- The life of a worker's driver.
use Rattle.std.specs.Prelude.{ℕ, ◌≡◌, ◌⊎◌, List, Option, Some, Result}
use Rattle.pmd_driver.specs.NicDevice.DmaArena.Numbers.{Numbers}
use Rattle.pmd_driver.specs.DeviceLock.declared.entry.Call.{Call}
use Rattle.pmd_driver.specs.PmdAccess.declared.fault.PmdFault.{PmdFault}
use Rattle.pmd_driver.specs.PmdAccess.Named.{AtPort}
use Rattle.pmd_driver.specs.Life.{HasLived, NeverLived}
use Rattle.pmd_driver.specs.declared.start.Rest.{Rest}
use Rattle.pmd_driver.specs.declared.start.StartRefused.{StartRefused}
use Rattle.pmd.specs.Ended.{first_fault}
use Rattle.pmd.specs.declared.fault.WorkerFault.{WorkerFault}
use Rattle.pmd.specs.declared.fault.WorkerFault.TheVariants.{Pmd}

-- A worker had one driver for its queue. Either the driver ran and was stopped once, successfully or not. The worker
-- then reports the first of two faults, if any: why it ended early, and why the driver didn't stop. Or the start was
-- refused, and the worker reports why.
abbrev pub HasRun : AtPort → ℕ → ℕ → List Call → Numbers → List Call → Rest → Option WorkerFault → Type 0
HasRun q size frame old a new left fault =
    ((worked : Result (Unit {0}) WorkerFault) × (late : Option PmdFault) × (fault ≡ first_fault worked late)
    × HasLived q size frame old a new left late)
    ⊎ ((e : StartRefused) × (fault ≡ Some (Pmd e.fault)) × NeverLived q size frame old a e new left)
