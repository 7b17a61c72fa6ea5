-- Lemmas about the lines of the steps so far, and the lines of the remaining steps.
use Rattle.std.proofs.Common.{arith, subst, sym, ◌∙◌, ap, ◌≡◌, ◌≤◌, ℕ, zero, suc, ◌+◌, ◌-◌, List, [], ◌++◌, append-nil, append_assoc, Option, add-zero, add-suc, add-one}
use Rattle.std.specs.Io.KnownBytes.{Appends}
use Rattle.nic_device.specs.declared.Config.{Config}
use Rattle.machine.specs.Course.{Course}
use Rattle.program.specs.Listing.{Listing}
use Rattle.machine.specs.Machine.{machine_at, machine_step, start_of}
use Rattle.machine.specs.declared.StepAnswer.{StepAnswer}
use Rattle.machine.specs.declared.StepAnswer.TheVariants.{Stopped}
use Rattle.machine.proofs.Running.{steps_count, stopped_for_good}
use Rattle.bench_commands.specs.Answer.{WritesBeginning}
use Rattle.bench_commands.proofs.Appending.{Appends-both, Appends-none}
use Rattle.bench_commands.specs.Steps.{answer_text, step_text, steps_text}

module _ (p : Listing) (c : Config) (k : ℕ) (stopped : (machine_step p (machine_at p c k)).answer ≡ Stopped) where
  -- A stopped machine prints no more lines.
  steps_text-stopped : (d : ℕ) → steps_text p c (k + d) ≡ steps_text p c k
  unfolding steps_text
  steps_text-stopped zero = ap (steps_text p c) (add-zero k)
  steps_text-stopped (suc d) = ap (steps_text p c) (add-suc k d)
      ∙ ap (λ t. t ++ step_text p (machine_at p c (k + d))) (steps_text-stopped d)
      ∙ ap (λ s. steps_text p c k ++ step_text p s) (stopped_for_good p c k d stopped)
      ∙ ap (λ a. steps_text p c k ++ answer_text (machine_at p c k).pc a) stopped ∙ append-nil (steps_text p c k)

-- The lines of d steps after the first k.
rest_of : Listing → Config → ℕ → ℕ → List ℕ
rest_of p c k zero = []
rest_of p c k (suc d) = rest_of p c k d ++ step_text p (machine_at p c (k + d))

steps_text-rest : (p : Listing) (c : Config) (k d : ℕ) → steps_text p c k ++ rest_of p c k d ≡ steps_text p c (k + d)
unfolding steps_text rest_of
steps_text-rest p c k zero = append-nil (steps_text p c k) ∙ ap (steps_text p c) (sym (add-zero k))
steps_text-rest p c k (suc d) =
    sym (append_assoc (steps_text p c k) (rest_of p c k d) (step_text p (machine_at p c (k + d))))
    ∙ ap (λ t. t ++ step_text p (machine_at p c (k + d))) (steps_text-rest p c k d)
    ∙ ap (steps_text p c) (sym (add-suc k d))

-- A machine that has taken k steps, with their lines written.
pub record AfterSteps (old new : Option (List ℕ)) (start now : Course) (k : ℕ) : Type 0 where
  pub written : Appends old new (steps_text start.program start.config k)
  pub at : now ≡ record start { state = machine_at start.program start.config k }

pub no-steps : (o : Option (List ℕ)) (m : Course) → m.state ≡ start_of m.program m.config → AfterSteps o o m m 0
unfolding machine_at steps_text
no-steps o m new = record { written = Appends-none o; at = ap (λ s. record m { state = s }) new }

module _ (old new : Option (List ℕ)) (start now : Course) (k limit : ℕ) (after : AfterSteps old new start now k) where
  pub steps-begun : k ≤ limit → WritesBeginning old new (steps_text start.program start.config limit)
  steps-begun within =
      let up_to : k + (limit - k) ≡ limit = omega arith in
      record {
        beginning = steps_text start.program start.config k;
        rest = rest_of start.program start.config k (limit - k);
        written = after.written;
        whole = steps_text-rest start.program start.config k (limit - k)
            ∙ ap (steps_text start.program start.config) up_to;
      }

  -- The next step is the step that the machine takes after k steps.
  step-at : machine_step now.program now.state ≡ machine_step start.program (machine_at start.program start.config k)
  step-at = ap (λ (m : Course). machine_step m.program m.state) after.at

  pub stopped-text : (machine_step now.program now.state).answer ≡ Stopped → k ≤ limit
      → Appends old new (steps_text start.program start.config limit)
  stopped-text is within =
      let up_to : k + (limit - k) ≡ limit = omega arith in
      let stopped = ap (λ s. s.answer) (sym step-at) ∙ is in
      subst (Appends old new) (sym (steps_text-stopped start.program start.config k stopped (limit - k))
      ∙ ap (steps_text start.program start.config) up_to) after.written

  pub stopped-state : (later : Course) → later ≡ record now { state = (machine_step now.program now.state).state }
      → (machine_step now.program now.state).answer ≡ Stopped → k ≤ limit
      → later.state ≡ machine_at start.program start.config limit
  stopped-state later step is within =
      let up_to : k + (limit - k) ≡ limit = omega arith in
      let stopped = ap (λ s. s.answer) (sym step-at) ∙ is in
      ap (λ (m : Course). m.state) step ∙ ap (λ s. s.state) step-at
      ∙ steps_count.stays start.program (machine_at start.program start.config k) stopped
      ∙ sym (stopped_for_good start.program start.config k (limit - k) stopped)
      ∙ ap (machine_at start.program start.config) up_to

  pub next-steps : (last : Option (List ℕ)) (later : Course)
      → later ≡ record now { state = (machine_step now.program now.state).state }
      → Appends new last (answer_text now.state.pc (machine_step now.program now.state).answer)
      → AfterSteps old last start later (k + 1)
  unfolding machine_at steps_text
  next-steps last later step wrote = record {
    written = subst (Appends old last)
        (ap (λ (m : Course). steps_text start.program start.config k ++ step_text m.program m.state) after.at
        ∙ ap (steps_text start.program start.config) (sym (add-one k)))
        (Appends-both old new last (steps_text start.program start.config k) _ after.written wrote);
    at = step ∙ ap (λ (m : Course). record m { state = (machine_step m.program m.state).state }) after.at
        ∙ ap (λ n. record start { state = machine_at start.program start.config n }) (sym (add-one k));
  }

-- The line written for a step's answer is the line of this step.
pub answer-written : (old new : Option (List ℕ)) (pc at : ℕ) (reported answer : StepAnswer) → pc ≡ at → reported
    ≡ answer
    → Appends old new (answer_text pc reported) → Appends old new (answer_text at answer)
answer-written old new pc at reported answer same is written =
    subst (Appends old new) (ap (λ n. answer_text n reported) same ∙ ap (answer_text at) is) written
