-- Lemmas about running on by a number of steps.
use Rattle.std.proofs.Common.{◌≡◌, refl, sym, ◌∙◌, ap, subst, ℕ, suc, ◌+◌, ◌-◌, ◌<◌, ◌≤◌, Bool, true, false, if◌then◌else◌, List, Result, Ok, Err, OnErr, arith, add-one}
use Rattle.nic_device.specs.declared.Config.{Config}
use Rattle.machine.specs.Course.{Course}
use Rattle.machine.specs.Machine.{machine_at, machine_step, StepTakesMemory}
use Rattle.program.specs.Listing.{Listing}
use Rattle.debugger.specs.Breakpoints.{has_break}
use Rattle.debugger.specs.Running.{is_stopped, stops_at, run_on}
use Rattle.debugger.proofs.Counted.{stays, counts, takes-goes}
use Rattle.debugger.proofs.Ends.{runs_end_first}

pub run_on-stopped : (p : Listing) (c : Config) (b : List ℕ) (n limit : ℕ) → stops_at p c n ≡ true
    → run_on p c b n (suc limit) ≡ n
unfolding run_on
run_on-stopped p c b n limit stopped = rw stopped refl

pub run_on-break : (p : Listing) (c : Config) (b : List ℕ) (n limit : ℕ) → stops_at p c n ≡ false
    → has_break b (machine_at p c (suc n)).pc ≡ true → run_on p c b n (suc limit) ≡ suc n
unfolding run_on
run_on-break p c b n limit going meets = rw (going, meets) refl

pub run_on-goes : (p : Listing) (c : Config) (b : List ℕ) (n limit : ℕ) → stops_at p c n ≡ false
    → has_break b (machine_at p c (suc n)).pc ≡ false → run_on p c b n (suc limit) ≡ run_on p c b (suc n) limit
unfolding run_on
run_on-goes p c b n limit going passes = rw (going, passes) refl

-- A run with a limit of at least one step takes a step, unless the machine has stopped.
run_on-further : (p : Listing) (c : Config) (b : List ℕ) (n limit : ℕ) → stops_at p c n ≡ false
    → n < run_on p c b n (suc limit)
unfolding run_on
run_on-further p c b n limit going = rw going (either (has_break b (machine_at p c (suc n)).pc))
  where
    either : (meets : Bool) → n < (if meets then suc n else run_on p c b (suc n) limit)
    either true = omega arith
    either false = let on = (runs_end_first p c b (suc n) limit).from in omega (arith, on)

-- Whether the next instruction has a breakpoint.
pub meets-at : (b : List ℕ) (pc reported number : ℕ) (meets : Bool) → reported ≡ pc → number ≡ reported
    → meets ≡ has_break b number → has_break b pc ≡ meets
meets-at b pc reported number meets first second is = ap (has_break b) (sym first ∙ sym second) ∙ sym is

-- The machine `now` is the machine `start` after some of the steps of a run.
pub record RanOn (start now : Course) (breakpoints : List ℕ) (limit made : ℕ) : Type 0 where
  pub at : now ≡ record start { state = machine_at start.program start.config now.state.steps }
  pub from : start.state.steps ≤ now.state.steps
  pub left : run_on start.program start.config breakpoints now.state.steps (limit - made)
      ≡ run_on start.program start.config breakpoints start.state.steps limit

module _ (start now : Course) (b : List ℕ) (limit made : ℕ) (ran : RanOn start now b limit made) where
  -- The next step is the step that the machine takes after the steps so far.
  step-is : machine_step now.program now.state ≡
      machine_step start.program (machine_at start.program start.config now.state.steps)
  step-is = ap (λ (m : Course). machine_step m.program m.state) ran.at

  stops-is : (stopped : Bool) → stopped ≡ is_stopped (machine_step now.program now.state).answer
      → stops_at start.program start.config now.state.steps ≡ stopped
  stops-is stopped is = ap (λ s. is_stopped s.answer) (sym step-is) ∙ sym is

  pub all-ran : made ≡ limit → now.state.steps ≡ run_on start.program start.config b start.state.steps limit
  unfolding run_on
  all-ran is = sym (ap (run_on start.program start.config b now.state.steps)
      (let none : limit - made ≡ 0 = omega arith in none)) ∙ ran.left

  -- If the next step may need memory, it is one of the remaining steps.
  short : made < limit → StepTakesMemory now.program now.state
      → now.state.steps < run_on start.program start.config b start.state.steps limit
  short within takes =
      let one : suc (limit - made - 1) ≡ limit - made = omega arith in
      subst (λ n. now.state.steps < n)
      (ap (run_on start.program start.config b now.state.steps) one ∙ ran.left)
      (run_on-further start.program start.config b now.state.steps (limit - made - 1)
      (stops-is false (sym (takes-goes now.program now.state takes))))

  -- The case in which a step runs out of memory.
  pub refused-short : {A E : Type 0} (result : Result A E) (later : Course) → later ≡ now → made < limit
      → StepTakesMemory now.program now.state
      → OnErr result (later.state.steps < run_on start.program start.config b start.state.steps limit)
  refused-short (Ok x) later same within takes = tt
  refused-short (Err e) later same within takes = rw same (short within takes)

  pub refused-takes : {A E : Type 0} (result : Result A E) (later : Course) → later ≡ now
      → StepTakesMemory now.program now.state
      → OnErr result (StepTakesMemory start.program (machine_at start.program start.config later.state.steps))
  refused-takes (Ok x) later same takes = tt
  refused-takes (Err e) later same takes =
      rw same (subst (λ (m : Course). StepTakesMemory m.program m.state) ran.at takes)

  module _ (later : Course) (step : later ≡ record now { state = (machine_step now.program now.state).state }) where
    -- The case in which the machine has stopped.
    same : (stopped : is_stopped (machine_step now.program now.state).answer ≡ true) → later ≡ now
    same stopped = step ∙ ap (λ s. record now { state = s }) (stays now.program now.state stopped)

    pub stopped-at : is_stopped (machine_step now.program now.state).answer ≡ true
        → later ≡ record start { state = machine_at start.program start.config later.state.steps }
    stopped-at stopped = same stopped ∙ ran.at
        ∙ ap (λ (m : Course). record start { state = machine_at start.program start.config m.state.steps })
        (sym (same stopped))

    pub stopped-from : is_stopped (machine_step now.program now.state).answer ≡ true
        → start.state.steps ≤ later.state.steps
    stopped-from stopped = let e = ap (λ (m : Course). m.state.steps) (same stopped) in omega (arith, e, ran.from)

    pub stopped-steps : is_stopped (machine_step now.program now.state).answer ≡ true → made < limit
        → later.state.steps ≡ run_on start.program start.config b start.state.steps limit
    stopped-steps stopped within =
        let one : suc (limit - made - 1) ≡ limit - made = omega arith in
        ap (λ (m : Course). m.state.steps) (same stopped)
        ∙ sym (run_on-stopped start.program start.config b now.state.steps (limit - made - 1)
        (stops-is true (sym stopped)))
        ∙ ap (run_on start.program start.config b now.state.steps) one ∙ ran.left

    -- The case in which the machine continues.
    next-steps : is_stopped (machine_step now.program now.state).answer ≡ false
        → later.state.steps ≡ suc now.state.steps
    next-steps going = ap (λ (m : Course). m.state.steps) step ∙ counts now.program now.state going
        ∙ add-one now.state.steps

    pub next-at : is_stopped (machine_step now.program now.state).answer ≡ false
        → later ≡ record start { state = machine_at start.program start.config later.state.steps }
    unfolding machine_at
    next-at going = step ∙ ap (λ (m : Course). record m { state = (machine_step m.program m.state).state }) ran.at
        ∙ ap (λ n. record start { state = machine_at start.program start.config n }) (sym (next-steps going))

    pub next-from : is_stopped (machine_step now.program now.state).answer ≡ false
        → start.state.steps ≤ later.state.steps
    next-from going = omega (arith, next-steps going, ran.from)

    next-pc : (going : is_stopped (machine_step now.program now.state).answer ≡ false) (meets : Bool)
        → meets ≡ has_break b later.state.pc
        → has_break b (machine_at start.program start.config (suc now.state.steps)).pc ≡ meets
    next-pc going meets is =
        ap (λ n. has_break b (machine_at start.program start.config n).pc) (sym (next-steps going))
        ∙ ap (λ (m : Course). has_break b m.state.pc) (sym (next-at going)) ∙ sym is

    pub break-steps : is_stopped (machine_step now.program now.state).answer ≡ false
        → has_break b later.state.pc ≡ true → made < limit
        → later.state.steps ≡ run_on start.program start.config b start.state.steps limit
    break-steps going meets within =
        let one : suc (limit - made - 1) ≡ limit - made = omega arith in
        next-steps going
        ∙ sym (run_on-break start.program start.config b now.state.steps (limit - made - 1)
        (stops-is false (sym going)) (next-pc going true (sym meets)))
        ∙ ap (run_on start.program start.config b now.state.steps) one ∙ ran.left

    pub next-ran : is_stopped (machine_step now.program now.state).answer ≡ false
        → has_break b later.state.pc ≡ false → made < limit
        → RanOn start later b limit (made + 1)
    next-ran going passes within =
        let one : suc (limit - (made + 1)) ≡ limit - made = omega arith in
        record {
          at = next-at going;
          from = next-from going;
          left = ap (λ n. run_on start.program start.config b n (limit - (made + 1))) (next-steps going)
              ∙ sym (run_on-goes start.program start.config b now.state.steps (limit - (made + 1))
              (stops-is false (sym going)) (next-pc going false (sym passes)))
              ∙ ap (run_on start.program start.config b now.state.steps) one ∙ ran.left;
        }
