-- What the debugger's commands do, stated in terms of instruction numbers and counts of steps.
use Rattle.std.specs.Prelude.{ℕ, suc, ◌≡◌, ◌≢◌, ◌-◌, ◌<◌, ◌≤◌, ◌==◌, not, Bool, true, false, [], ◌∷◌, ◌++◌, length, filter}
use Rattle.std.specs.Prelude.{None, Ok, Err}
use Rattle.std.specs.List.{list_any}
use Rattle.debugger.specs.Commands.{command_of}
use Rattle.debugger.specs.Session.{Session, view_of}
use Rattle.debugger.specs.declared.command.Command.{Command}
use Rattle.debugger.specs.declared.command.Command.TheVariants.{Back, Break, Clear, Continue, Step}
use Rattle.debugger.specs.declared.command.DebugRefusal.{DebugRefusal}
use Rattle.debugger.specs.declared.command.DebugRefusal.TheVariants.{AtStart, NoSuchPc, TooManyBreaks}
use Rattle.machine.specs.Machine.{machine_at, machine_step}
use Rattle.machine.specs.declared.machine.StepAnswer.{StepAnswer}
use Rattle.machine.specs.declared.machine.StepAnswer.TheVariants.{Stopped}

-- Whether an instruction has a breakpoint.
abbrev pub is_set : Session → ℕ → Bool
is_set s pc = list_any (λ set. set == pc) s.breakpoints

-- `IsDone`: a command returns the view of session `after`, and this is the session after the command. `IsRefused`: a
-- command returns this refusal and leaves the session unchanged.
pub record IsDone (s : Session) (command : Command) (after : Session) : Type 0 where
  pub answer : (command_of s command).answer ≡ Ok (view_of after None)
  pub session : (command_of s command).session ≡ after

pub record IsRefused (s : Session) (command : Command) (refusal : DebugRefusal) : Type 0 where
  pub answer : (command_of s command).answer ≡ Err refusal
  pub session : (command_of s command).session ≡ s

-- A breakpoint is set at an instruction of the program. Setting a breakpoint that is already set has no effect, even if
-- 32 are set. A new breakpoint becomes the last one, and a 33rd is refused.
pub record BreaksAreSet (s : Session) (pc : ℕ) : Type 0 where
  pub outside : length s.program.instructions ≤ pc → IsRefused s (Break pc) NoSuchPc
  pub again : pc < length s.program.instructions → is_set s pc ≡ true → IsDone s (Break pc) s
  pub room : pc < length s.program.instructions → is_set s pc ≡ false → length s.breakpoints < 32 →
      IsDone s (Break pc) (record s { breakpoints = s.breakpoints ++ pc ∷ [] })
  pub full : pc < length s.program.instructions → is_set s pc ≡ false → 32 ≤ length s.breakpoints →
      IsRefused s (Break pc) TooManyBreaks

-- Clearing a breakpoint that is set removes that breakpoint and no other. Clearing one that isn't set is refused.
pub record BreaksAreCleared (s : Session) (pc : ℕ) : Type 0 where
  pub set : is_set s pc ≡ true →
      IsDone s (Clear pc) (record s { breakpoints = filter (λ other. not (other == pc)) s.breakpoints })
  pub none : is_set s pc ≡ false → IsRefused s (Clear pc) NoSuchPc

-- A session can go back as far as its first step.
pub record GoesBack (s : Session) (count : ℕ) : Type 0 where
  pub back : count ≤ s.steps → IsDone s (Back count) (record s { steps = s.steps - count })
  pub refused : s.steps < count → IsRefused s (Back count) AtStart

-- What the next step returns, the session after that step, and whether the instruction that is next after it has a
-- breakpoint.
abbrev pub next_answer : Session → StepAnswer
next_answer s = (machine_step s.program (machine_at s.program s.config s.steps)).answer

abbrev pub one_on : Session → Session
one_on s = record s { steps = suc s.steps }

abbrev pub is_met : Session → Bool
is_met s = is_set s (machine_at s.program s.config (suc s.steps)).pc

-- Steps are taken one after the other, regardless of breakpoints: as many as requested, or fewer if the machine stops.
pub record StepsAreMade (s : Session) (more : ℕ) : Type 0 where
  pub none : IsDone s (Step 0) s
  pub stopped : next_answer s ≡ Stopped → IsDone s (Step (suc more)) s
  pub one : next_answer s ≢ Stopped → command_of s (Step (suc more)) ≡ command_of (one_on s) (Step more)

-- `Continue` takes steps in the same way, but ends at the first breakpoint that it reaches after at least one step. A
-- breakpoint at the session's current instruction doesn't stop `Continue`.
pub record RunsAreMade (s : Session) (more : ℕ) : Type 0 where
  pub none : IsDone s (Continue 0) s
  pub stopped : next_answer s ≡ Stopped → IsDone s (Continue (suc more)) s
  pub met : next_answer s ≢ Stopped → is_met s ≡ true → IsDone s (Continue (suc more)) (one_on s)
  pub one : next_answer s ≢ Stopped → is_met s ≡ false →
      command_of s (Continue (suc more)) ≡ command_of (one_on s) (Continue more)

abbrev pub BreakpointsAreBounded : Type 0
BreakpointsAreBounded = (s : Session) (pc : ℕ) → BreaksAreSet s pc × BreaksAreCleared s pc

abbrev pub SessionsGoBack : Type 0
SessionsGoBack = (s : Session) (count : ℕ) → GoesBack s count

abbrev pub BreakpointsHoldRuns : Type 0
BreakpointsHoldRuns = (s : Session) (more : ℕ) → StepsAreMade s more × RunsAreMade s more
