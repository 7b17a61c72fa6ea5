-- Laws about the machine.
use Rattle.std.specs.Prelude.{◌≡◌, ◌≢◌, ℕ, ◌+◌, ◌-◌, ◌^◌, ◌<◌, Some}
use Rattle.nic_device.specs.Run.{state_after}
use Rattle.nic_device.specs.State.{new_state}
use Rattle.nic_device.specs.declared.Config.{Config}
use Rattle.machine.specs.Machine.{next_instruction, machine_step, machine_at, events_until}
use Rattle.machine.specs.MachineState.{MachineState}
use Rattle.machine.specs.declared.machine.Status.TheVariants.{Running}
use Rattle.machine.specs.declared.machine.StepAnswer.TheVariants.{Stopped}
use Rattle.program.specs.Listing.{Listing, IsListing}
use Rattle.program.specs.declared.instruction.Instruction.TheVariants as instr

-- A step that returns `Stopped` leaves the machine unchanged. Any other step adds one to the count of steps.
pub record StepsCount : Type 0 where
  pub stays : (program : Listing) (s : MachineState) → (machine_step program s).answer ≡ Stopped
      → (machine_step program s).state ≡ s
  pub counts : (program : Listing) (s : MachineState) → (machine_step program s).answer ≢ Stopped
      → (machine_step program s).state.steps ≡ s.steps + 1

-- A step of a machine that isn't running returns `Stopped`. A running machine that has counted fewer than 2^64 - 1
-- steps executes its next instruction.
pub record RunningMachinesStep : Type 0 where
  pub stops : (program : Listing) (s : MachineState) → s.status ≢ Running → (machine_step program s).answer ≡ Stopped
  pub steps : (program : Listing) (config : Config) (n : ℕ) → IsListing program
      → (machine_at program config n).status ≡ Running
      → (machine_at program config n).steps < 2 ^ 64 - 1
      → (machine_step program (machine_at program config n)).answer ≢ Stopped

-- If the step after n steps returns `Stopped`, the machine stays unchanged in all further steps.
abbrev pub StoppedMachinesStay : Type 0
StoppedMachinesStay = (program : Listing) (config : Config) (n more : ℕ)
    → (machine_step program (machine_at program config n)).answer ≡ Stopped
    → machine_at program config (n + more) ≡ machine_at program config n

-- After n steps, the machine's device is in the same state as a new device after the events of these n steps.
abbrev pub MachinesRunTheirDevice : Type 0
MachinesRunTheirDevice = (program : Listing) (config : Config) (n : ℕ)
    → (machine_at program config n).device ≡
    state_after (new_state config.vfs config.fifo) (events_until program config n)

-- After a taken jump, the jump's target is the next instruction to execute. After a jump that isn't taken, the machine
-- continues with the following instruction.
pub record JumpsGo : Type 0 where
  pub always : (program : Listing) (s : MachineState) (target : ℕ)
      → next_instruction program s ≡ Some (instr.Jump target)
      → (machine_step program s).state.pc ≡ target
  pub equal : (program : Listing) (s : MachineState) (word target : ℕ)
      → next_instruction program s ≡ Some (instr.JumpIfEqual word target)
      → s.acc ≡ word → (machine_step program s).state.pc ≡ target
  pub not_equal : (program : Listing) (s : MachineState) (word target : ℕ)
      → next_instruction program s ≡ Some (instr.JumpIfEqual word target)
      → s.acc ≢ word → (machine_step program s).state.pc ≡ s.pc + 1
  pub unless_other : (program : Listing) (s : MachineState) (word target : ℕ)
      → next_instruction program s ≡ Some (instr.JumpUnlessEqual word target)
      → s.acc ≢ word → (machine_step program s).state.pc ≡ target
  pub unless_equal : (program : Listing) (s : MachineState) (word target : ℕ)
      → next_instruction program s ≡ Some (instr.JumpUnlessEqual word target)
      → s.acc ≡ word → (machine_step program s).state.pc ≡ s.pc + 1
