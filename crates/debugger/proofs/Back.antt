-- Lemmas about going back by a number of steps.
use Rattle.std.proofs.Common.{◌≡◌, refl, sym, ◌∙◌, ap, subst, ℕ, ◌+◌, ◌-◌, ◌≤◌, List, [], Ok, Err, None, arith}
use Rattle.std.proofs.lemmas.Bool.{le-leb}
use Rattle.nic_device.specs.declared.Config.{Config}
use Rattle.machine.specs.Course.{Course}
use Rattle.machine.specs.Machine.{machine_at}
use Rattle.machine.specs.MachineState.{MachineState}
use Rattle.program.specs.Listing.{Listing}
use Rattle.program.specs.Object.{read_of}
use Rattle.debugger.specs.Commands.{at, Does}
use Rattle.debugger.specs.Running.{run_on}
use Rattle.debugger.specs.Session.{Session, CanBeReplayed, view_of}
use Rattle.debugger.specs.declared.command.Command.TheVariants.{Back}
use Rattle.debugger.specs.declared.command.DebugRefusal.TheVariants.{OutOfMemory}
use Rattle.debugger.specs.declared.command.View.{View}
use Rattle.debugger.proofs.Counted.{counted-before, run_on-plain}

-- The session that contracts see for a machine and breakpoints.
abbrev seen : Course → List ℕ → Session
seen m b = record { program = m.program; config = m.config; steps = m.state.steps; breakpoints = b }

-- If a machine has counted n steps, running from the start reaches each earlier step.
replayed : (p : Listing) (c : Config) (n target : ℕ) → (machine_at p c n).steps ≡ n → target ≤ n
    → run_on p c [] 0 target ≡ target
unfolding machine_at
replayed p c n target counted within =
    let whole : target + (n - target) ≡ n = omega arith in
    let from : 0 + target ≡ target = omega arith in
    run_on-plain p c 0 target refl ∙ ap (λ k. (machine_at p c k).steps) from
    ∙ counted-before p c target (n - target) (ap (λ k. (machine_at p c k).steps) whole ∙ counted ∙ sym whole)

-- Replacing the machine with the replayed machine takes the session to the earlier step.
pub seen-back : (object : List ℕ) (config : Config) (d m : Course) (b : List ℕ) (steps count : ℕ)
    → CanBeReplayed object config d
    → read_of object ≡ Ok m.program → m.config ≡ config → m.state.steps ≡ run_on m.program config [] 0 (steps - count)
    → steps ≡ d.state.steps → count ≤ steps → seen m b ≡ at (seen d b) (d.state.steps - count)
seen-back object config d m b steps count kept program same ran is within =
    let read : Ok d.program ≡ Ok m.program = sym kept.program ∙ program in
    let one : m.program ≡ d.program = cc in
    let configs : m.config ≡ d.config = same ∙ sym kept.same in
    let counted : (machine_at d.program d.config d.state.steps).steps ≡ d.state.steps =
    sym (ap (λ (s : MachineState). s.steps) kept.at) in
    let target : steps - count ≡ d.state.steps - count = ap (λ n. n - count) is in
    let to : m.state.steps ≡ d.state.steps - count =
    ran ∙ ap (λ p. run_on p config [] 0 (steps - count)) one
    ∙ ap (λ c. run_on d.program c [] 0 (steps - count)) (sym kept.same)
    ∙ ap (run_on d.program d.config [] 0) target
    ∙ replayed d.program d.config d.state.steps (d.state.steps - count) counted (omega arith) in
    ap (λ p. let s : Session = record { program = p; config = m.config; steps = m.state.steps; breakpoints = b } in
    s) one
    ∙ ap (λ c. let s : Session =
    record { program = d.program; config = c; steps = m.state.steps; breakpoints = b } in s) configs
    ∙ ap (λ n. let s : Session = record { program = d.program; config = d.config; steps = n; breakpoints = b } in s) to

pub Does-back : (s after : Session) (count : ℕ) (view : View) → count ≤ s.steps → after ≡ at s (s.steps - count)
    → view ≡ view_of after None
    → Does s (Back count) (Ok view) after
Does-back s after count view within is shown =
    let test = le-leb count s.steps within in
    record {
      answer = λ _. rw test (ap Ok (shown ∙ ap (λ (t : Session). view_of t None) is));
      session = λ _. rw test is;
      memory = λ (refused : Ok view ≡ Err OutOfMemory). cc;
    }

-- The replayed machine becomes the debugger's machine, so the session is the session after `Back`.
pub back-done : (old : Session) (object bytes : List ℕ) (config : Config) (d m fresh : Course) (b : List ℕ)
    (steps count : ℕ) (view : View)
    → seen d b ≡ old → CanBeReplayed object config d → bytes ≡ object → read_of bytes ≡ Ok fresh.program
    → fresh.config ≡ config
    → fresh.state.steps ≡ run_on fresh.program config [] 0 (steps - count) → m ≡ fresh → steps ≡ d.state.steps
    → count ≤ steps
    → view ≡ view_of (seen m b) None → Does old (Back count) (Ok view) (seen m b)
back-done old object bytes config d m fresh b steps count view was kept object-is program same ran moved is within
    shown =
    let back = seen-back object config d fresh b steps count kept (ap read_of (sym object-is) ∙ program) same ran is
    within in
    subst (λ s. Does s (Back count) (Ok view) (seen m b)) was
    (Does-back (seen d b) (seen m b) count view (omega (arith, is, within)) (ap (λ n. seen n b) moved ∙ back) shown)
