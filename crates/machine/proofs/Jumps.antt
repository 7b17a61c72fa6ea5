-- After a taken jump, the jump's target is the next instruction.
use Rattle.std.proofs.Common.{◌≡◌, ◌≢◌, refl, ◌∙◌, ap, ℕ, ◌==◌, false, Option, Some, eq-eqb, inl, inr}
use Rattle.std.proofs.lemmas.Bool.Decides.{eqb_tells}
use Rattle.machine.specs.Laws.{JumpsGo}
use Rattle.machine.specs.Machine.{executed_if_some, next_instruction, machine_step}
use Rattle.machine.specs.MachineState.{MachineState}
use Rattle.program.specs.Listing.{Listing}
use Rattle.program.specs.declared.instruction.Instruction.{Instruction}
use Rattle.program.specs.declared.instruction.Instruction.TheVariants as instr

-- The next instruction determines the state after the step.
leads : (program : Listing) (s : MachineState) (i : Instruction ℕ ℕ) → next_instruction program s ≡ Some i
    → (machine_step program s).state.pc ≡ (executed_if_some program s (Some i)).state.pc
unfolding machine_step
leads program s i next = ap (λ (o : Option (Instruction ℕ ℕ)). (executed_if_some program s o).state.pc) next

test_other : (a b : ℕ) → a ≢ b → (a == b) ≡ false
test_other a b other = elim (eqb_tells a b) [
  | inl (test, is) ↦ absurd (other is)
  | inr (test, differs) ↦ test
]

pub jumps_go : JumpsGo
jumps_go = record {
  always = λ program s target next. leads program s (instr.Jump target) next;
  equal = λ program s word target next is. leads program s (instr.JumpIfEqual word target) next
      ∙ rw (eq-eqb s.acc word is) refl;
  not_equal = λ program s word target next other. leads program s (instr.JumpIfEqual word target) next
      ∙ rw (test_other s.acc word other) refl;
  unless_other = λ program s word target next other. leads program s (instr.JumpUnlessEqual word target) next
      ∙ rw (test_other s.acc word other) refl;
  unless_equal = λ program s word target next is. leads program s (instr.JumpUnlessEqual word target) next
      ∙ rw (eq-eqb s.acc word is) refl;
}
