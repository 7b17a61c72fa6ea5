-- A step of a running machine, and a step of a stopped one.
use Rattle.std.proofs.Common.{◌≡◌, ◌≢◌, refl, sym, ◌∙◌, ap, ℕ, zero, suc, ◌+◌, ◌-◌, ◌^◌, ◌<◌, Bool, true, false, cond, length, Option, Some, None, arith, inl, inr}
use Rattle.std.proofs.lemmas.Bool.{lt-ltb}
use Rattle.std.proofs.lemmas.Option.{slice_get_cases}
use Rattle.program.specs.DmaArena.Block.{Block}
use Rattle.nic_device.specs.declared.Config.{Config}
use Rattle.nic_device.specs.declared.Reply.{Reply}
use Rattle.machine.specs.Action.{action_of}
use Rattle.machine.specs.Laws.{StepsCount, RunningMachinesStep, StoppedMachinesStay}
use Rattle.machine.specs.Machine.{Step, is_running, done, executed_if_some, next_instruction, machine_step, machine_at}
use Rattle.machine.specs.MachineState.{MachineState}
use Rattle.machine.specs.declared.action.Action.{Action}
use Rattle.machine.specs.declared.action.Action.TheVariants.{Lend, Local}
use Rattle.machine.specs.declared.machine.Status.{Status}
use Rattle.machine.specs.declared.machine.Status.TheVariants.{Running, Ended, Failed}
use Rattle.machine.specs.declared.machine.StepAnswer.TheVariants as answer
use Rattle.program.specs.Listing.{Listing}
use Rattle.program.specs.declared.instruction.Instruction.{Instruction}
use Rattle.machine.proofs.Steps.{steps-done}
use Rattle.machine.proofs.Places.{runs-inside}

answered : (b : Bool) (x y : Step) → x.answer ≢ answer.Stopped → y.answer ≢ answer.Stopped
    → (cond b x y).answer ≢ answer.Stopped
answered true x y h k = h
answered false x y h k = k

no_block_not_stopped : answer.NoBlock ≢ answer.Stopped
no_block_not_stopped e = cc

made_not_stopped : (r : Reply Block) → answer.Made r ≢ answer.Stopped
made_not_stopped r e = cc

local_not_stopped : answer.Local ≢ answer.Stopped
local_not_stopped e = cc

done_not_stopped : (program : Listing) (s : MachineState) (action : Action)
    → (done program s action).answer ≢ answer.Stopped
done_not_stopped program s (Lend block) = answered _ _ _ (made_not_stopped _) no_block_not_stopped
done_not_stopped program s (Local action) = local_not_stopped
done_not_stopped program s other = made_not_stopped _

stays : (program : Listing) (s : MachineState) (next : Option (Instruction ℕ ℕ))
    → (executed_if_some program s next).answer ≡ answer.Stopped → (executed_if_some program s next).state ≡ s
stays program s None e = refl
stays program s (Some instruction) e = absurd (done_not_stopped program s (action_of program instruction) e)

counts : (program : Listing) (s : MachineState) (next : Option (Instruction ℕ ℕ))
    → (executed_if_some program s next).answer ≢ answer.Stopped
    → (executed_if_some program s next).state.steps ≡ s.steps + 1
counts program s None other = absurd (other refl)
counts program s (Some instruction) other = steps-done program s (action_of program instruction)

pub steps_count : StepsCount
unfolding machine_step
steps_count = record {
  stays = λ program s e. stays program s (next_instruction program s) e;
  counts = λ program s other. counts program s (next_instruction program s) other;
}

pub stopped_for_good : (program : Listing) (config : Config) (n more : ℕ)
    → (machine_step program (machine_at program config n)).answer ≡ answer.Stopped
    → machine_at program config (n + more) ≡ machine_at program config n
unfolding machine_at
stopped_for_good program config n zero stopped = ap (machine_at program config) (omega arith)
stopped_for_good program config n (suc more) stopped =
    let one : n + suc more ≡ suc (n + more) = omega arith in
    let before = stopped_for_good program config n more stopped in
    ap (machine_at program config) one ∙ ap (λ s. (machine_step program s).state) before
    ∙ steps_count.stays program (machine_at program config n) stopped

pub stopped_machines_stay : StoppedMachinesStay
stopped_machines_stay = stopped_for_good

not_running : (status : Status) → status ≢ Running → is_running status ≡ false
not_running Running other = absurd (other refl)
not_running Ended other = refl
not_running (Failed pc have want) other = refl

none_next : (program : Listing) (s : MachineState) → is_running s.status ≡ false → next_instruction program s ≡ None
none_next program s stopped = rw stopped refl

found : (program : Listing) (s : MachineState) → s.status ≡ Running → s.steps < 2 ^ 64 - 1
    → s.pc < length program.instructions
    → (i : Instruction ℕ ℕ) × (next_instruction program s ≡ Some i)
found program s running few inside = elim (slice_get_cases program.instructions s.pc).1 [
  | inl (i, below, is, at) ↦ (i, rw (running, lt-ltb s.steps (2 ^ 64 - 1) few) is)
  | inr (past, is) ↦ absurd (omega arith)
]

pub running_machines_step : RunningMachinesStep
unfolding machine_step
running_machines_step = record {
  stops = λ program s other.
      ap (λ next. (executed_if_some program s next).answer) (none_next program s (not_running s.status other));
  steps = λ program config n listing running few.
      let s = machine_at program config n in
      let next = found program s running few (runs-inside program config n listing running) in
      λ stopped. done_not_stopped program s (action_of program next.0)
      (ap (λ (o : Option (Instruction ℕ ℕ)). (executed_if_some program s o).answer) (sym next.1) ∙ stopped);
}
