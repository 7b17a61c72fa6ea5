-- The effect of a command.
use Rattle.std.specs.Prelude.{◌≡◌, ◌≢◌, ◌<◌, ◌≤◌, ◌-◌, ℕ, nat_le, List, [], length, Option, None, Result, Ok, Err, if◌then◌else◌}
use Rattle.nic_device.specs.Step.{step_of, reported_word}
use Rattle.nic_device.specs.declared.Event.TheVariants.{Read}
use Rattle.nic_device.specs.declared.Port.{Port}
use Rattle.nic_device.specs.declared.Port.TheVariants.{Pf, Vf}
use Rattle.machine.specs.Machine.{machine_at, StepTakesMemory}
use Rattle.debugger.specs.Breakpoints.{with_break, without_break}
use Rattle.debugger.specs.Running.{run_on}
use Rattle.debugger.specs.Session.{Session, machine_of, view_of}
use Rattle.debugger.specs.declared.command.Command.{Command}
use Rattle.debugger.specs.declared.command.Command.TheVariants.{Step, Back, Continue, Break, Clear, Show, ShowVf}
use Rattle.debugger.specs.declared.command.DebugRefusal.{DebugRefusal}
use Rattle.debugger.specs.declared.command.DebugRefusal.TheVariants.{AtStart, OutOfMemory}
use Rattle.debugger.specs.declared.command.View.{View}

-- The result of a command, and the session after the command.
pub record Answered : Type 0 where
  pub answer : Result View DebugRefusal
  pub session : Session

-- The command succeeds and shows the session.
abbrev pub shows : Session → Option ℕ → Answered
shows s shown = record { answer = Ok (view_of s shown); session = s }

-- The command is refused and nothing changes.
abbrev pub refuses : Session → DebugRefusal → Answered
refuses s refusal = record { answer = Err refusal; session = s }

-- The session at this number of steps.
abbrev pub at : Session → ℕ → Session
at s steps = record s { steps = steps }

-- The session with these breakpoints, or the refusal to change the breakpoints.
abbrev pub with_breakpoints : Session → Result (List ℕ) DebugRefusal → Answered
with_breakpoints s (Ok breakpoints) = shows (record s { breakpoints = breakpoints }) None
with_breakpoints s (Err refusal) = refuses s refusal

-- What a read through a port would return, without the read's side effects.
abbrev pub peeked : Session → Port → ℕ → Option ℕ
peeked s port address = reported_word (step_of (machine_of s).device (Read port address)).reply

-- The session after taking this many steps, or fewer if the machine stops.
abbrev pub stepped : Session → ℕ → Session
stepped s count = at s (run_on s.program s.config [] s.steps count)

-- The session after running on to a breakpoint, for at most `limit` steps.
abbrev pub continued : Session → ℕ → Session
continued s limit = at s (run_on s.program s.config s.breakpoints s.steps limit)

-- The result of each command, and the session after it.
abbrev pub command_of : Session → Command → Answered
command_of s (Step count) = shows (stepped s count) None
command_of s (Back count) = if nat_le count s.steps then shows (at s (s.steps - count)) None else refuses s AtStart
command_of s (Continue limit) = shows (continued s limit) None
command_of s (Break pc) = with_breakpoints s (with_break (length s.program.instructions) s.breakpoints pc)
command_of s (Clear pc) = with_breakpoints s (without_break s.breakpoints pc)
command_of s (Show address) = shows s (peeked s Pf address)
command_of s (ShowVf function offset) = shows s (peeked s (Vf function) offset)

-- Some of the steps to the target session were taken, and nothing else was done. The next step is one of the remaining
-- steps, and may need memory.
pub record IsOnTheWay (before after target : Session) : Type 0 where
  pub same : after ≡ at before after.steps
  pub from : before.steps ≤ after.steps
  pub short : after.steps < target.steps
  pub takes : StepTakesMemory before.program (machine_at before.program before.config after.steps)

-- The session after memory ran out. `Step` and `Continue` have taken some of their steps, and the next step is one of
-- the remaining steps and may need memory. `Back` changed nothing, and the session is at step `count` or later. No
-- other command needs memory.
abbrev pub LeftBy : Session → Command → Session → Type 0
LeftBy s (Step count) after = IsOnTheWay s after (stepped s count)
LeftBy s (Back count) after = (count ≤ s.steps) × (after ≡ s)
LeftBy s (Continue limit) after = IsOnTheWay s after (continued s limit)
LeftBy s (Break pc) after = ⊥
LeftBy s (Clear pc) after = ⊥
LeftBy s (Show address) after = ⊥
LeftBy s (ShowVf function offset) after = ⊥

-- The command returns this result and leaves this session. After `OutOfMemory` the session is one that `LeftBy` allows.
pub record Does (s : Session) (command : Command) (result : Result View DebugRefusal) (after : Session) : Type 0 where
  pub answer : result ≢ Err OutOfMemory → result ≡ (command_of s command).answer
  pub session : result ≢ Err OutOfMemory → after ≡ (command_of s command).session
  pub memory : result ≡ Err OutOfMemory → LeftBy s command after
