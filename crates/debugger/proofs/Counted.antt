-- Lemmas about how many steps a machine has counted after n steps.
use Rattle.std.proofs.Common.{◌≡◌, ◌≢◌, refl, sym, ◌∙◌, ap, ℕ, zero, suc, ◌+◌, ◌≤◌, Bool, true, false, if◌then◌else◌, Option, Some, None, [], arith, add-zero, add-suc}
use Rattle.nic_device.specs.declared.Config.{Config}
use Rattle.machine.specs.Action.{action_of}
use Rattle.machine.specs.Machine.{done, executed_if_some, machine_at, machine_step, next_instruction}
use Rattle.machine.specs.Machine.{NextTakesSome, Step, StepTakesMemory}
use Rattle.machine.specs.MachineState.{MachineState}
use Rattle.machine.specs.declared.machine.StepAnswer.{StepAnswer}
use Rattle.machine.specs.declared.machine.StepAnswer.TheVariants as answer
use Rattle.program.specs.DmaArena.Numbers.{is_free}
use Rattle.program.specs.Listing.{Listing}
use Rattle.program.specs.declared.instruction.Instruction.{Instruction}
use Rattle.program.specs.declared.instruction.Instruction.TheVariants.{Lend}
use Rattle.machine.proofs.Running.{steps_count, stopped_for_good}
use Rattle.debugger.specs.Running.{is_stopped, stops_at, run_on}

stopped-is : (a : StepAnswer) → is_stopped a ≡ true → a ≡ answer.Stopped
stopped-is answer.Stopped e = refl
stopped-is other e = cc

going-is : (a : StepAnswer) → is_stopped a ≡ false → a ≢ answer.Stopped
going-is a going e = (let no : true ≡ false = sym (ap is_stopped e) ∙ going in cc)

-- A step leaves a stopped machine unchanged; any other machine counts the step.
pub stays : (p : Listing) (s : MachineState) → is_stopped (machine_step p s).answer ≡ true
    → (machine_step p s).state ≡ s
stays p s stopped = steps_count.stays p s (stopped-is (machine_step p s).answer stopped)

pub counts : (p : Listing) (s : MachineState) → is_stopped (machine_step p s).answer ≡ false
    → (machine_step p s).state.steps ≡ s.steps + 1
counts p s going = steps_count.counts p s (going-is (machine_step p s).answer going)

-- A machine isn't stopped if its next step may need memory.
either-goes : (b : Bool) (x y : Step) → is_stopped x.answer ≡ false → is_stopped y.answer ≡ false
    → is_stopped (if b then x else y).answer ≡ false
either-goes true x y first second = first
either-goes false x y first second = second

done-goes : (p : Listing) (s : MachineState) (i : Instruction ℕ ℕ)
    → is_stopped (done p s (action_of p i)).answer ≡ false
done-goes p s (Lend block) = either-goes (is_free s.arena block) _ _ refl refl
done-goes p s other = refl

pub takes-goes : (p : Listing) (s : MachineState) → StepTakesMemory p s → is_stopped (machine_step p s).answer ≡ false
unfolding machine_step
takes-goes p s takes = go (next_instruction p s) takes
  where
    go : (next : Option (Instruction ℕ ℕ)) → NextTakesSome p s next
        → is_stopped (executed_if_some p s next).answer ≡ false
    go None never = absurd never
    go (Some instruction) takes = done-goes p s instruction

-- One more step adds at most one to the count.
one_more : (p : Listing) (c : Config) (n : ℕ) (stopped : Bool) → stops_at p c n ≡ stopped
    → ((machine_at p c n).steps ≤ (machine_at p c (suc n)).steps)
    × ((machine_at p c (suc n)).steps ≤ (machine_at p c n).steps + 1)
unfolding machine_at
one_more p c n true is = let same = ap (λ (s : MachineState). s.steps) (stays p (machine_at p c n) is) in
    (omega (arith, same), omega (arith, same))
one_more p c n false is = let more = counts p (machine_at p c n) is in (omega (arith, more), omega (arith, more))

-- k more steps add at most k to the count.
pub more : (p : Listing) (c : Config) (n k : ℕ)
    → ((machine_at p c n).steps ≤ (machine_at p c (n + k)).steps)
    × ((machine_at p c (n + k)).steps ≤ (machine_at p c n).steps + k)
more p c n zero = let same = ap (λ m. (machine_at p c m).steps) (add-zero n) in
    (omega (arith, same), omega (arith, same))
more p c n (suc k) =
    let before = more p c n k in
    let step = one_more p c (n + k) (stops_at p c (n + k)) refl in
    let same = ap (λ m. (machine_at p c m).steps) (add-suc n k) in
    (omega (arith, before.0, step.0, same), omega (arith, before.1, step.1, same))

-- After n steps, a machine has counted at most n steps.
pub few : (p : Listing) (c : Config) (n : ℕ) → (machine_at p c n).steps ≤ n
unfolding machine_at
few p c zero = omega arith
few p c (suc n) = let step = one_more p c n (stops_at p c n) refl in omega (arith, step.1, few p c n)

-- If a machine has counted all of its steps, it had counted all of its steps at every earlier step.
pub counted-before : (p : Listing) (c : Config) (n k : ℕ) → (machine_at p c (n + k)).steps ≡ n + k
    → (machine_at p c n).steps ≡ n
counted-before p c n k all = let later = more p c n k in omega (arith, later.1, few p c n)

either_on : (p : Listing) (c : Config) (n k : ℕ) → (machine_at p c n).steps ≡ n → (stopped : Bool)
    → stops_at p c n ≡ stopped
    → ((machine_at p c (suc n)).steps ≡ suc n → run_on p c [] (suc n) k ≡ (machine_at p c (suc n + k)).steps)
    → (if stopped then n else run_on p c [] (suc n) k) ≡ (machine_at p c (n + suc k)).steps
unfolding machine_at
either_on p c n k counted true is on =
    sym counted ∙ ap (λ (s : MachineState). s.steps)
    (sym (stopped_for_good p c n (suc k) (stopped-is (machine_step p (machine_at p c n)).answer is)))
either_on p c n k counted false is on =
    let one : suc n + k ≡ n + suc k = omega arith in
    let next : (machine_at p c (suc n)).steps ≡ suc n = omega (arith, counts p (machine_at p c n) is, counted) in
    on next ∙ ap (λ m. (machine_at p c m).steps) one

-- A run without breakpoints ends at the number of steps that the machine has counted by then.
pub run_on-plain : (p : Listing) (c : Config) (n k : ℕ) → (machine_at p c n).steps ≡ n
    → run_on p c [] n k ≡ (machine_at p c (n + k)).steps
unfolding run_on
run_on-plain p c n zero counted = sym counted ∙ ap (λ m. (machine_at p c m).steps) (sym (add-zero n))
run_on-plain p c n (suc k) counted = either_on p c n k counted (stops_at p c n) refl (run_on-plain p c (suc n) k)
