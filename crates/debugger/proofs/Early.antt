-- Lemmas about snapshots of a machine, and about runs that start from an earlier snapshot.
use Rattle.std.proofs.Common.{◌≡◌, refl, sym, subst, ◌∙◌, ap, ℕ, ◌+◌, ◌-◌, ◌<◌, ◌≤◌, Bool, true, false, if◌then◌else◌, List, [], ◌∷◌, ◌++◌, length, take, get_or, Result, Ok, Err, arith}
use Rattle.std.specs.Prelude.{IsOk}
use Rattle.std.proofs.lemmas.List.Elements.{All-nil, All-cons, All-append, All-take}
use Rattle.nic_device.specs.declared.Config.{Config}
use Rattle.machine.specs.Course.{Course}
use Rattle.machine.specs.Machine.{machine_at, machine_step, start_of}
use Rattle.machine.specs.MachineState.{MachineState}
use Rattle.program.specs.Listing.{Listing}
use Rattle.program.specs.Object.{read_of}
use Rattle.program.specs.declared.fault.ObjectFault.{ObjectFault}
use Rattle.debugger.specs.Running.{run_on}
use Rattle.debugger.specs.Session.{CanBeReplayed}
use Rattle.debugger.specs.Snapshots.{IsOf, AreOf, IsBefore, StayOf, AreReplayed}
use Rattle.debugger.proofs.Counted.{run_on-plain}

-- Running the remaining steps from an earlier step ends at the same step as running from the start.
pub run_on-early : (p : Listing) (c : Config) (n steps : ℕ) → (machine_at p c n).steps ≡ n → n ≤ steps
    → run_on p c [] n (steps - n) ≡ run_on p c [] 0 steps
unfolding machine_at
run_on-early p c n steps counted within =
    let whole : n + (steps - n) ≡ 0 + steps = omega arith in
    run_on-plain p c n (steps - n) counted ∙ ap (λ k. (machine_at p c k).steps) whole
    ∙ sym (run_on-plain p c 0 steps refl)

-- The same holds for a machine that has run on.
pub replayed-early : (config : Config) (machine later : Course) (b : List ℕ) (left steps reported : ℕ)
    → machine.config ≡ config → machine.state ≡ machine_at machine.program config machine.state.steps
    → machine.state.steps ≤ steps → reported ≡ machine.state.steps → left ≡ steps - reported → b ≡ []
    → later ≡ record machine { state = machine_at machine.program machine.config later.state.steps }
    → later.state.steps ≡ run_on machine.program machine.config b machine.state.steps left
    → later.state.steps ≡ run_on later.program config [] 0 steps
replayed-early config machine later b left steps reported same at within is rest none later-at ran =
    let counted : (machine_at machine.program config machine.state.steps).steps ≡ machine.state.steps =
    sym (ap (λ (s : MachineState). s.steps) at) in
    ran
    ∙ ap (λ (xs : List ℕ). run_on machine.program machine.config xs machine.state.steps left) none
    ∙ ap (λ c. run_on machine.program c [] machine.state.steps left) same
    ∙ ap (λ n. run_on machine.program config [] machine.state.steps n) (rest ∙ ap (λ n. steps - n) is)
    ∙ run_on-early machine.program config machine.state.steps steps counted within
    ∙ ap (λ (m : Course). run_on m.program config [] 0 steps) (sym later-at)

-- A restored machine is at the step of its snapshot.
pub at-early : (machine : Course) (config : Config) (reported : ℕ) → machine.config ≡ config → reported
    ≡ machine.state.steps
    → machine.state ≡ machine_at machine.program machine.config reported
    → machine.state ≡ machine_at machine.program config machine.state.steps
at-early machine config reported same count at =
    at ∙ ap (λ n. machine_at machine.program machine.config n) count
    ∙ ap (λ c. machine_at machine.program c machine.state.steps) same

-- If a snapshot of the same machine is added, all snapshots are still snapshots of one machine.
pub stay-more : (machine : Course) (before : List Course) (snapshot : Course) → snapshot ≡ machine
    → StayOf machine before (before ++ snapshot ∷ [])
stay-more machine before snapshot is m same all =
    let of : IsOf m snapshot = record {
      program = ap (λ (c : Course). c.program) is ∙ sym same.program;
      config = ap (λ (c : Course). c.config) is ∙ sym same.config;
    } in
    All-append (IsOf m) before (snapshot ∷ []) all (All-cons (IsOf m) snapshot [] of (All-nil (IsOf m)))

-- If `StayOf` holds for two successive parts of a run, it holds for both parts together.
pub stay-on : (start now : Course) (first second third : List Course) → now.program ≡ start.program
    → now.config ≡ start.config → StayOf start first second → StayOf now second third → StayOf start first third
stay-on start now first second third program config before more m same all =
    let like : IsOf now m = record { program = same.program ∙ sym program; config = same.config ∙ sym config } in
    more m like (before m same all)

-- If `StayOf` holds for a run and for one more step, it holds for the run with this step.
pub stay-step : (start now later : Course) (first second third : List Course)
    → now ≡ record start { state = machine_at start.program start.config now.state.steps }
    → later ≡ record now { state = (machine_step now.program now.state).state }
    → StayOf start first second → StayOf later second third → StayOf start first third
stay-step start now later first second third at step before more =
    stay-on start later first second third
    (ap (λ (m : Course). m.program) step ∙ ap (λ (m : Course). m.program) at)
    (ap (λ (m : Course). m.config) step ∙ ap (λ (m : Course). m.config) at) before more

-- The machine can be replayed from the snapshots that were taken during a run.
pub replayed-more : (object : List ℕ) (config : Config) (machine : Course) (before after : List Course)
    → CanBeReplayed object config machine → AreReplayed object config before → StayOf machine before after
    → AreReplayed object config after
replayed-more object config machine before after can all stay m program same =
    let read : Ok machine.program ≡ Ok m.program = sym can.program ∙ program in
    let one : m.program ≡ machine.program = cc in
    stay m (record { program = one; config = same ∙ sym can.same }) (all m program same)

-- After a run, the machine can be replayed from its snapshots.
pub replayed-on : (object : List ℕ) (config : Config) (machine later : Course) (before after : List Course)
    → CanBeReplayed object config machine → AreReplayed object config before
    → later ≡ record machine { state = machine_at machine.program machine.config later.state.steps }
    → StayOf machine before after → CanBeReplayed object config later × AreReplayed object config after
replayed-on object config machine later before after can all at stay =
    let on : CanBeReplayed object config later = record {
      program = can.program ∙ ap (λ (m : Course). Ok m.program) (sym at);
      same = ap (λ (m : Course). m.config) at ∙ can.same;
      made = can.made;
      at = ap (λ (m : Course). m.state) at
          ∙ ap (λ (m : Course). machine_at m.program m.config later.state.steps) (sym at);
    } in
    (on, replayed-more object config machine before after can all stay)

-- `StayOf` holds if a snapshot is added when there is enough memory.
pub stay-pushed : (machine : Course) (before after : List Course) (snapshot : Course) (ok : Bool)
    → snapshot ≡ machine → after ≡ (if ok then before ++ snapshot ∷ [] else before) → StayOf machine before after
stay-pushed machine before after snapshot true is pushed =
    subst (λ (xs : List Course). StayOf machine before xs) (sym pushed) (stay-more machine before snapshot is)
stay-pushed machine before after snapshot false is pushed =
    λ m same all. subst (λ (xs : List Course). AreOf m xs) (sym pushed) all

-- `StayOf` also holds if all but the permanent snapshots are removed before the new snapshot is added.
pub stay-replaced : (machine : Course) (stay : ℕ) (before first after : List Course) (snapshot : Course) (ok : Bool)
    → snapshot ≡ machine → first ≡ take stay before → after ≡ (if ok then first ++ snapshot ∷ [] else first)
    → StayOf machine before after
stay-replaced machine stay before first after snapshot ok is taken pushed m same all =
    stay-pushed machine first after snapshot ok is pushed m same
    (subst (λ (xs : List Course). AreOf m xs) (sym taken) (All-take (IsOf m) stay before all))

-- The snapshot that is found is at or before the wanted step.
pub before-is : (machine snapshot : Course) (snapshots kept : List Course) (at reported steps : ℕ) →
    AreOf machine snapshots
    → kept ≡ snapshots → at < length kept → snapshot ≡ get_or kept at snapshot → reported ≡ snapshot.state.steps
    → reported ≤ steps → IsBefore machine snapshot steps
before-is machine snapshot snapshots kept at reported steps all same inside is count early = record {
  same = subst (λ (s : Course). IsOf machine s) (sym is)
      (subst (λ (xs : List Course). AreOf machine xs) (sym same) all at snapshot inside);
  early = omega (arith, count, early);
}

-- A machine that is restored from the snapshot can run on in place of a machine that runs from the start.
early-by : (object : List ℕ) (config : Config) (snapshots : List Course) (snapshot : Course) (steps : ℕ)
    (read : Result Listing ObjectFault) → read_of object ≡ read → IsOk read → AreReplayed object config snapshots
    → ((m : Course) → AreOf m snapshots → IsBefore m snapshot steps)
    → (read_of object ≡ Ok snapshot.program) × (snapshot.config ≡ config) × (snapshot.state.steps ≤ steps)
early-by object config snapshots snapshot steps (Ok p) is ok all before =
    let m : Course = record { program = p; config = config; state = start_of p config } in
    let b = before m (all m is refl) in
    (is ∙ ap Ok (sym b.same.program), b.same.config, b.early)
early-by object config snapshots snapshot steps (Err fault) is ok all before = absurd (let no : false ≡ true = ok in cc)

pub early-is : (object : List ℕ) (config : Config) (snapshots : List Course) (snapshot : Course) (steps : ℕ)
    → IsOk (read_of object) → AreReplayed object config snapshots
    → ((m : Course) → AreOf m snapshots → IsBefore m snapshot steps)
    → (read_of object ≡ Ok snapshot.program) × (snapshot.config ≡ config) × (snapshot.state.steps ≤ steps)
early-is object config snapshots snapshot steps ok all before =
    early-by object config snapshots snapshot steps (read_of object) refl ok all before
