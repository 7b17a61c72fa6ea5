-- Lemmas about the sessions before and after a command.
use Rattle.std.proofs.Common.{◌≡◌, refl, sym, ◌∙◌, ap, ℕ, zero, suc, ◌+◌, ◌-◌, ◌≤◌, Bool, true, false, List, [], Option, None, Result, Ok, Err, if◌then◌else◌, arith, inl, inr}
use Rattle.std.proofs.lemmas.Bool.Decides.{leb_tells}
use Rattle.nic_device.specs.declared.Config.{Config}
use Rattle.machine.specs.Machine.{machine_at}
use Rattle.program.specs.Listing.{Listing}
use Rattle.debugger.specs.Breakpoints.{has_break, with_break, without_break}
use Rattle.debugger.specs.Commands.{Answered, shows, refuses, at, with_breakpoints, command_of}
use Rattle.debugger.specs.Laws.{CommandsShowTheirPosition, IsCounted, PositionsAreCounted, BackAndOnAgain}
use Rattle.debugger.specs.Running.{stops_at, run_on}
use Rattle.debugger.specs.Session.{Session, view_of}
use Rattle.debugger.specs.declared.command.Command.{Command}
use Rattle.debugger.specs.declared.command.Command.TheVariants.{Step, Back, Continue, Break, Clear, Show, ShowVf}
use Rattle.debugger.specs.declared.command.DebugRefusal.{DebugRefusal}
use Rattle.debugger.specs.declared.command.DebugRefusal.TheVariants.{AtStart}
use Rattle.debugger.specs.declared.command.View.{View}
use Rattle.debugger.proofs.Counted.{counts, counted-before, run_on-plain}

-- How a command's result, the session after it and the session before it are related.
record Stands (s : Session) (a : Answered) : Type 0 where
  shown : (view : View) → a.answer ≡ Ok view → view ≡ view_of a.session view.shown
  refused : (refusal : DebugRefusal) → a.answer ≡ Err refusal → a.session ≡ s
  program : a.session.program ≡ s.program
  config : a.session.config ≡ s.config

shows-stands : (s after : Session) (shown : Option ℕ) → after.program ≡ s.program → after.config ≡ s.config
    → Stands s (shows after shown)
shows-stands s after shown program config = record {
  shown = λ view is. (let same : view_of after shown ≡ view = cc in
      sym same ∙ ap (view_of after) (ap (λ (v : View). v.shown) same));
  refused = λ refusal is. cc;
  program = program;
  config = config;
}

refuses-stands : (s : Session) (refusal : DebugRefusal) → Stands s (refuses s refusal)
refuses-stands s refusal = record { shown = λ view is. cc; refused = λ other is. refl; program = refl; config = refl }

either-stands : (s : Session) (b : Bool) (x y : Answered) → Stands s x → Stands s y → Stands s (if b then x else y)
either-stands s true x y h k = h
either-stands s false x y h k = k

with_breakpoints-stands : (s : Session) (changed : Result (List ℕ) DebugRefusal) → Stands s (with_breakpoints s changed)
with_breakpoints-stands s (Ok breakpoints) = shows-stands s (record s { breakpoints = breakpoints }) None refl refl
with_breakpoints-stands s (Err refusal) = refuses-stands s refusal

stands : (s : Session) (command : Command) → Stands s (command_of s command)
stands s (Step count) = shows-stands s _ None refl refl
stands s (Back count) =
    either-stands s _ _ _ (shows-stands s (at s (s.steps - count)) None refl refl) (refuses-stands s AtStart)
stands s (Continue limit) = shows-stands s _ None refl refl
stands s (Break pc) = with_breakpoints-stands s (with_break _ s.breakpoints pc)
stands s (Clear pc) = with_breakpoints-stands s (without_break s.breakpoints pc)
stands s (Show address) = shows-stands s s _ refl refl
stands s (ShowVf function offset) = shows-stands s s _ refl refl

pub commands_show_their_position : CommandsShowTheirPosition
commands_show_their_position = record {
  shown = λ s command. (stands s command).shown;
  refused = λ s command. (stands s command).refused;
  program = λ s command. (stands s command).program;
  config = λ s command. (stands s command).config;
  show = λ s address. refl;
  show_vf = λ s function offset. refl;
}

-- If the machine has counted all steps when a run starts, it has counted all steps when the run ends.
counted-either : (p : Listing) (c : Config) (b : List ℕ) (n limit : ℕ) (stopped meets : Bool)
    → stops_at p c n ≡ stopped → (machine_at p c n).steps ≡ n
    → ((machine_at p c (suc n)).steps ≡ suc n
    → (machine_at p c (run_on p c b (suc n) limit)).steps ≡ run_on p c b (suc n) limit)
    → (machine_at p c (if stopped then n else if meets then suc n else run_on p c b (suc n) limit)).steps
    ≡ (if stopped then n else if meets then suc n else run_on p c b (suc n) limit)
unfolding machine_at
counted-either p c b n limit true meets is counted on = counted
counted-either p c b n limit false true is counted on = omega (arith, counts p (machine_at p c n) is, counted)
counted-either p c b n limit false false is counted on = on (omega (arith, counts p (machine_at p c n) is, counted))

run_on-counted : (p : Listing) (c : Config) (b : List ℕ) (n limit : ℕ) → (machine_at p c n).steps ≡ n
    → (machine_at p c (run_on p c b n limit)).steps ≡ run_on p c b n limit
unfolding run_on
run_on-counted p c b n zero counted = counted
run_on-counted p c b n (suc limit) counted =
    counted-either p c b n limit (stops_at p c n) (has_break b (machine_at p c (suc n)).pc) refl counted
    (run_on-counted p c b (suc n) limit)

counted-with_breakpoints : (s : Session) (changed : Result (List ℕ) DebugRefusal) → IsCounted s
    → IsCounted (with_breakpoints s changed).session
counted-with_breakpoints s (Ok breakpoints) counted = counted
counted-with_breakpoints s (Err refusal) counted = counted

counted-back : (s : Session) (count : ℕ) → IsCounted s → count ≤ s.steps
    → (machine_at s.program s.config (s.steps - count)).steps ≡ s.steps - count
counted-back s count counted within =
    let whole : s.steps - count + count ≡ s.steps = omega arith in
    counted-before s.program s.config (s.steps - count) count
    (ap (λ k. (machine_at s.program s.config k).steps) whole ∙ counted ∙ sym whole)

kept : (s : Session) (command : Command) → IsCounted s → IsCounted (command_of s command).session
kept s (Step count) counted = run_on-counted s.program s.config [] s.steps count counted
kept s (Back count) counted = elim (leb_tells count s.steps) [
  | inl (test, within) ↦ rw test (counted-back s count counted within)
  | inr (test, beyond) ↦ rw test counted
]
kept s (Continue limit) counted = run_on-counted s.program s.config s.breakpoints s.steps limit counted
kept s (Break pc) counted = counted-with_breakpoints s (with_break _ s.breakpoints pc) counted
kept s (Clear pc) counted = counted-with_breakpoints s (without_break s.breakpoints pc) counted
kept s (Show address) counted = counted
kept s (ShowVf function offset) counted = counted

pub positions_are_counted : PositionsAreCounted
unfolding machine_at
positions_are_counted = record { new = λ program config breakpoints. refl; kept = kept }

pub back_and_on_again : BackAndOnAgain
back_and_on_again s count counted within =
    let whole : s.steps - count + count ≡ s.steps = omega arith in
    run_on-plain s.program s.config (s.steps - count) count (counted-back s count counted within)
    ∙ ap (λ k. (machine_at s.program s.config k).steps) whole ∙ counted
