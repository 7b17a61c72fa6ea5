-- The state of a machine between two steps.
use Rattle.std.specs.Prelude.{ℕ}
use Rattle.program.specs.DmaArena.Numbers.{Numbers}
use Rattle.nic_device.specs.State.{State}
use Rattle.machine.specs.declared.machine.Status.{Status}

-- The device, the free blocks, the number of the next instruction, the accumulator, the status, and the number of
-- counted steps.
pub record MachineState : Type 0 where
  pub device : State
  pub arena : Numbers
  pub pc : ℕ
  pub acc : ℕ
  pub status : Status
  pub steps : ℕ
