-- A machine's device is in the state of a new device after the machine's events.
use Rattle.std.proofs.Common.{◌≡◌, refl, sym, ◌∙◌, ap, ℕ, zero, suc, Bool, true, false, cond, List, [], ◌∷◌, ◌++◌, Option, Some, None}
use Rattle.program.specs.DmaArena.Block.{Block, zero_block}
use Rattle.nic_device.specs.Run.{state_after}
use Rattle.nic_device.specs.State.{State, new_state}
use Rattle.nic_device.specs.Step.{step_of}
use Rattle.nic_device.specs.declared.Event.{Event}
use Rattle.nic_device.specs.declared.Event.TheVariants as event
use Rattle.machine.specs.Action.{action_of}
use Rattle.machine.specs.Laws.{MachinesRunTheirDevice}
use Rattle.machine.specs.Machine.{Step, acted, done, events_of, events_if_some, events_until, executed_if_some, next_instruction, machine_step, machine_at}
use Rattle.machine.specs.MachineState.{MachineState}
use Rattle.machine.specs.declared.action.Action.{Action}
use Rattle.machine.specs.declared.action.Action.TheVariants.{Lend, Local}
use Rattle.machine.specs.declared.action.LocalAction.{LocalAction}
use Rattle.machine.specs.declared.action.LocalAction.TheVariants as act
use Rattle.program.specs.Listing.{Listing}
use Rattle.program.specs.declared.instruction.Instruction.{Instruction}

device-either : (device : State) (b : Bool) (x y : MachineState) → x.device ≡ device → y.device ≡ device
    → (cond b x y).device ≡ device
device-either device true x y h k = h
device-either device false x y h k = k

device-acted : (program : Listing) (s : MachineState) (action : LocalAction)
    → (acted program s action).device ≡ s.device
device-acted program s (act.Expect want mask) = device-either s.device _ _ _ refl refl
device-acted program s other = refl

device-step : (device : State) (b : Bool) (x y : Step) (made : List (Event Block))
    → x.state.device ≡ state_after device made → y.state.device ≡ device
    → (cond b x y).state.device ≡ state_after device (cond b made [])
device-step device true x y made h k = h
device-step device false x y made h k = k

device-done : (program : Listing) (s : MachineState) (action : Action)
    → (done program s action).state.device ≡ state_after s.device (events_of program s action)
device-done program s (Lend block) = device-step s.device _ _ _ (event.Lend (zero_block block) ∷ []) refl refl
device-done program s (Local action) = device-acted program s action
device-done program s other = refl

device-next : (program : Listing) (s : MachineState) (next : Option (Instruction ℕ ℕ))
    → (executed_if_some program s next).state.device ≡ state_after s.device (events_if_some program s next)
device-next program s None = refl
device-next program s (Some instruction) = device-done program s (action_of program instruction)

-- Events can be run in two parts.
state_after-append : (s : State) (front back : List (Event Block))
    → state_after s (front ++ back) ≡ state_after (state_after s front) back
state_after-append s [] back = refl
state_after-append s (e ∷ front) back = state_after-append (step_of s e).state front back

pub machines_run_their_device : MachinesRunTheirDevice
unfolding machine_at machine_step events_until
machines_run_their_device program config zero = refl
machines_run_their_device program config (suc n) =
    let s = machine_at program config n in
    let more = events_if_some program s (next_instruction program s) in
    device-next program s (next_instruction program s)
    ∙ ap (λ device. state_after device more) (machines_run_their_device program config n)
    ∙ sym (state_after-append (new_state config.vfs config.fifo) (events_until program config n) more)
