-- A running machine's next instruction belongs to its program.
use Rattle.std.proofs.Common.{◌≡◌, refl, subst, ℕ, zero, suc, ◌+◌, ◌<◌, ◌≤◌, Bool, true, false, cond, bit_and, List, [], ◌∷◌, length, slice_get, Option, Some, None, arith, inl, inr}
use Rattle.std.specs.List.{AllByRecursion}
use Rattle.std.specs.Prelude.{⊤}
use Rattle.std.proofs.lemmas.Bool.Decides.{eqb_tells}
use Rattle.std.proofs.lemmas.Option.{none-some, slice_get_within}
use Rattle.nic_device.specs.declared.Config.{Config}
use Rattle.machine.specs.Action.{StaysInside, action_of}
use Rattle.machine.specs.Machine.{Step, start_of, moved_to, acted, done, executed_if_some, next_instruction, machine_step, machine_at}
use Rattle.machine.specs.MachineState.{MachineState}
use Rattle.machine.specs.declared.action.Action.{Action}
use Rattle.machine.specs.declared.action.Action.TheVariants.{Make, Lend, TakeBack, Arrive, Local}
use Rattle.machine.specs.declared.action.LocalAction.{LocalAction}
use Rattle.machine.specs.declared.action.LocalAction.TheVariants as act
use Rattle.machine.specs.declared.machine.Status.TheVariants.{Running, Ended, Failed}
use Rattle.program.specs.Listing.{Listing, IsSound, IsListing}
use Rattle.program.specs.declared.instruction.Instruction.{Instruction}
use Rattle.program.specs.declared.instruction.Instruction.TheVariants as instr

-- If the machine runs, it is at an instruction.
abbrev IsPlaced : Listing → MachineState → Type 0
IsPlaced program s = s.status ≡ Running → s.pc < length program.instructions

ended_running : Ended ≡ Running → ⊥
ended_running e = cc

failed_running : (pc have want : ℕ) → Failed pc have want ≡ Running → ⊥
failed_running pc have want e = cc

placed-moved : (program : Listing) (s : MachineState) (pc : ℕ) → pc ≤ length program.instructions
    → IsPlaced program (moved_to program s pc)
placed-moved program s pc inside running = elim (eqb_tells pc (length program.instructions)) [
  | inl (test, at_end) ↦ absurd (ended_running (rw test at running))
  | inr (test, other) ↦ omega arith
]

placed_either : (program : Listing) (b : Bool) (x y : MachineState) → IsPlaced program x → IsPlaced program y
    → IsPlaced program (cond b x y)
placed_either program true x y h k = h
placed_either program false x y h k = k

inside_either : (limit : ℕ) (b : Bool) (x y : ℕ) → x ≤ limit → y ≤ limit → cond b x y ≤ limit
inside_either limit true x y h k = h
inside_either limit false x y h k = k

placed-acted : (program : Listing) (s : MachineState) (action : LocalAction) → s.pc < length program.instructions
    → StaysInside program action → IsPlaced program (acted program s action)
placed-acted program s (act.Expect want mask) below stays =
    placed_either program _ _ _ (placed-moved program s (s.pc + 1) (omega arith))
    (λ running. absurd (failed_running _ _ _ running))
placed-acted program s (act.And word) below stays =
    placed-moved program (record s { acc = bit_and s.acc word }) (s.pc + 1) (omega arith)
placed-acted program s (act.JumpIfEqual word target) below stays =
    placed-moved program s _ (inside_either (length program.instructions) _ target (s.pc + 1) stays (omega arith))
placed-acted program s (act.JumpUnlessEqual word target) below stays =
    placed-moved program s _ (inside_either (length program.instructions) _ (s.pc + 1) target (omega arith) stays)
placed-acted program s (act.Jump target) below stays = placed-moved program s target stays
placed-acted program s act.Halt below stays = λ running. absurd (ended_running running)

placed_step : (program : Listing) (b : Bool) (x y : Step) → IsPlaced program x.state → IsPlaced program y.state
    → IsPlaced program (cond b x y).state
placed_step program true x y h k = h
placed_step program false x y h k = k

-- The action's jumps stay inside the program.
abbrev JumpsInside : Listing → Action → Type 0
JumpsInside program (Local action) = StaysInside program action
JumpsInside program (Make event kept) = ⊤
JumpsInside program (Lend block) = ⊤
JumpsInside program (TakeBack block) = ⊤
JumpsInside program (Arrive number) = ⊤

jumps-inside : (program : Listing) (i : Instruction ℕ ℕ) → IsSound program.strings (length program.instructions) i
    → JumpsInside program (action_of program i)
jumps-inside program (instr.JumpIfEqual word target) sound = sound
jumps-inside program (instr.JumpUnlessEqual word target) sound = sound
jumps-inside program (instr.Jump target) sound = sound
jumps-inside program other sound = tt

placed-done : (program : Listing) (s : MachineState) (action : Action) → s.pc < length program.instructions
    → JumpsInside program action → IsPlaced program (done program s action).state
placed-done program s (Lend block) below inside =
    placed_step program _ _ _ (placed-moved program s (s.pc + 1) (omega arith))
    (placed-moved program s (s.pc + 1) (omega arith))
placed-done program s (Local action) below inside = placed-acted program s action below inside
placed-done program s other below inside = placed-moved program s (s.pc + 1) (omega arith)

-- If all instructions in a list have a property, the instruction at each index has the property.
each : (P : Instruction ℕ ℕ → Type 0) (xs : List (Instruction ℕ ℕ)) (k : ℕ) (i : Instruction ℕ ℕ)
    → AllByRecursion P xs → slice_get xs k ≡ Some i → P i
each P [] k i all found = cc
each P (x ∷ xs) zero i all found = let same : x ≡ i = cc in subst P same all.0
each P (x ∷ xs) (suc k) i all found = each P xs k i all.1 found

cond_given : (b : Bool) (o : Option (Instruction ℕ ℕ)) (i : Instruction ℕ ℕ) → cond b o None ≡ Some i → o ≡ Some i
cond_given true o i e = e
cond_given false o i e = absurd (none-some i e)

placed-next : (program : Listing) (s : MachineState) (next : Option (Instruction ℕ ℕ)) → IsListing program
    → IsPlaced program s
    → ((i : Instruction ℕ ℕ) → next ≡ Some i → slice_get program.instructions s.pc ≡ Some i)
    → IsPlaced program (executed_if_some program s next).state
placed-next program s None listing placed at = placed
placed-next program s (Some i) listing placed at =
    placed-done program s (action_of program i) (slice_get_within program.instructions s.pc i (at i refl))
    (jumps-inside program i
    (each (IsSound program.strings (length program.instructions)) program.instructions s.pc i listing.sound
    (at i refl)))

-- A running machine is at an instruction of its program.
pub runs-inside : (program : Listing) (config : Config) (n : ℕ) → IsListing program
    → IsPlaced program (machine_at program config n)
unfolding machine_at machine_step
runs-inside program config zero listing = placed-moved program (start_of program config) 0 (omega arith)
runs-inside program config (suc n) listing =
    let s = machine_at program config n in
    placed-next program s (next_instruction program s) listing (runs-inside program config n listing)
    (λ i next. cond_given _ (slice_get program.instructions s.pc) i next)
