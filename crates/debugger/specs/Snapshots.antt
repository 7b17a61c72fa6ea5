-- The snapshots that a debugger keeps.
use Rattle.std.specs.Prelude.{◌≡◌, ◌≤◌, ℕ, List, All, Ok}
use Rattle.nic_device.specs.declared.Config.{Config}
use Rattle.machine.specs.Course.{Course}
use Rattle.program.specs.Object.{read_of}

-- The two machines have equal programs and configurations. Their numbers of steps may differ.
pub record IsOf (machine other : Course) : Type 0 where
  pub program : other.program ≡ machine.program
  pub config : other.config ≡ machine.config

-- All snapshots have this machine's program and configuration.
abbrev pub AreOf : Course → List Course → Type 0
AreOf machine snapshots = All (λ s. IsOf machine s) snapshots

-- For each machine with this machine's program and configuration: if all snapshots in the first list have that
-- machine's program and configuration, all snapshots in the second list have them too.
abbrev pub StayOf : Course → List Course → List Course → Type 0
StayOf machine before after = (m : Course) → IsOf machine m → AreOf m before → AreOf m after

-- A snapshot of the machine at or before this step.
pub record IsBefore (machine snapshot : Course) (steps : ℕ) : Type 0 where
  pub same : IsOf machine snapshot
  pub early : snapshot.state.steps ≤ steps

-- All snapshots are of a machine that runs the object's program on a device with this configuration.
abbrev pub AreReplayed : List ℕ → Config → List Course → Type 0
AreReplayed object config snapshots =
    (machine : Course) → read_of object ≡ Ok machine.program → machine.config ≡ config → AreOf machine snapshots
