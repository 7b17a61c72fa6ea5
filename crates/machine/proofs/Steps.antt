-- A machine is in the state after its counted steps.
use Rattle.std.proofs.Common.{◌≡◌, ◌⊎◌, refl, sym, ◌∙◌, ap, ℕ, suc, ◌+◌, Bool, true, false, cond, Option, Some, None, inl, inr, ⊎_elim, add-one, Result, Ok, Err, OnOk, OnErr}
use Rattle.nic_device.specs.declared.Config.{Config}
use Rattle.card.specs.Card.{Holdings, new_card}
use Rattle.machine.specs.Action.{action_of}
use Rattle.machine.specs.MachineState.{MachineState}
use Rattle.machine.specs.Machine.{Step, start_of, status_at, acted, done, executed_if_some, next_instruction, machine_step, machine_at}
use Rattle.machine.specs.Processor.{state_with, IsWhereStepsLead}
use Rattle.machine.specs.declared.action.Action.{Action}
use Rattle.machine.specs.declared.action.Action.TheVariants.{Lend, Local}
use Rattle.machine.specs.declared.action.LocalAction.{LocalAction}
use Rattle.machine.specs.declared.action.LocalAction.TheVariants as act
use Rattle.program.specs.Listing.{Listing}
use Rattle.program.specs.declared.instruction.Instruction.{Instruction}

either_state : (s : MachineState) (b : Bool) (x y : MachineState) → x.steps ≡ s.steps + 1 → y.steps ≡ s.steps + 1
    → (cond b x y).steps ≡ s.steps + 1
either_state s true x y h k = h
either_state s false x y h k = k

either_step : (s : MachineState) (b : Bool) (x y : Step) → x.state.steps ≡ s.steps + 1 → y.state.steps ≡ s.steps + 1
    → (cond b x y).state.steps ≡ s.steps + 1
either_step s true x y h k = h
either_step s false x y h k = k

steps-acted : (program : Listing) (s : MachineState) (action : LocalAction)
    → (acted program s action).steps ≡ s.steps + 1
steps-acted program s (act.Expect want mask) = either_state s _ _ _ refl refl
steps-acted program s other = refl

-- Executing an instruction counts one step.
pub steps-done : (program : Listing) (s : MachineState) (action : Action)
    → (done program s action).state.steps ≡ s.steps + 1
steps-done program s (Lend block) = either_step s _ _ _ refl refl
steps-done program s (Local action) = steps-acted program s action
steps-done program s other = refl

-- A step is counted or leaves the machine unchanged.
counts_or_stays : (program : Listing) (s : MachineState) (next : Option (Instruction ℕ ℕ))
    → ((executed_if_some program s next).state ≡ s) ⊎ ((executed_if_some program s next).state.steps ≡ suc s.steps)
counts_or_stays program s None = inl refl
counts_or_stays program s (Some instruction) =
    inr (steps-done program s (action_of program instruction) ∙ add-one s.steps)

pub leads-start : (program : Listing) (config : Config) (s : MachineState) → s ≡ start_of program config
    → IsWhereStepsLead program config s
unfolding machine_at
leads-start program config s new = new ∙ ap (λ (t : MachineState). machine_at program config t.steps) (sym new)

pub leads-new : (program : Listing) (config : Config) (card : Holdings) (s : MachineState)
    → card ≡ new_card config.vfs config.fifo 256
    → s ≡ state_with card 0 0 (status_at program 0) 0 → IsWhereStepsLead program config s
leads-new program config card s new made =
    leads-start program config s (made ∙ ap (λ c. state_with c 0 0 (status_at program 0) 0) new)

pub leads-step : (program : Listing) (config : Config) (s : MachineState) → IsWhereStepsLead program config s
    → IsWhereStepsLead program config (machine_step program s).state
unfolding machine_step machine_at
leads-step program config s here =
    let after = (executed_if_some program s (next_instruction program s)).state in ⊎_elim
    (λ (stays : after ≡ s). stays ∙ here ∙ ap (λ (t : MachineState). machine_at program config t.steps) (sym stays))
    (λ (counts : after.steps ≡ suc s.steps). ap (λ t. (machine_step program t).state) here
    ∙ ap (machine_at program config) (sym counts))
    (counts_or_stays program s (next_instruction program s))

-- The same holds for a step that may have run out of memory.
pub leads-tried : {A E : Type 0} (program : Listing) (config : Config) (s after : MachineState) (result : Result A E)
    → IsWhereStepsLead program config s
    → OnOk result (after ≡ (machine_step program s).state) → OnErr result (after ≡ s)
    → IsWhereStepsLead program config after
leads-tried program config s after (Ok answer) here made refused = rw made (leads-step program config s here)
leads-tried program config s after (Err e) here made refused = rw refused here
