-- Laws about the debugger.
use Rattle.std.specs.Prelude.{◌≡◌, ◌⊎◌, ◌+◌, ◌-◌, ◌<◌, ◌≤◌, ℕ, true, false, List, [], Ok, Err}
use Rattle.nic_device.specs.declared.Config.{Config}
use Rattle.machine.specs.Machine.{machine_at}
use Rattle.program.specs.Listing.{Listing}
use Rattle.debugger.specs.Breakpoints.{has_break}
use Rattle.debugger.specs.Commands.{command_of}
use Rattle.debugger.specs.Running.{stops_at, run_on}
use Rattle.debugger.specs.Session.{Session, machine_of, view_of}
use Rattle.debugger.specs.declared.command.Command.{Command}
use Rattle.debugger.specs.declared.command.Command.TheVariants.{Show, ShowVf}
use Rattle.debugger.specs.declared.command.DebugRefusal.{DebugRefusal}
use Rattle.debugger.specs.declared.command.View.{View}

-- An executed command shows the state of the machine at the session's step. A refused command leaves the session
-- unchanged. No command changes the program or the configuration, and the show commands change nothing.
pub record CommandsShowTheirPosition : Type 0 where
  pub shown : (s : Session) (command : Command) (view : View) → (command_of s command).answer ≡ Ok view
      → view ≡ view_of (command_of s command).session view.shown
  pub refused : (s : Session) (command : Command) (refusal : DebugRefusal) → (command_of s command).answer ≡ Err refusal
      → (command_of s command).session ≡ s
  pub program : (s : Session) (command : Command) → (command_of s command).session.program ≡ s.program
  pub config : (s : Session) (command : Command) → (command_of s command).session.config ≡ s.config
  pub show : (s : Session) (address : ℕ) → (command_of s (Show address)).session ≡ s
  pub show_vf : (s : Session) (function offset : ℕ) → (command_of s (ShowVf function offset)).session ≡ s

-- The session's machine has counted all of the session's steps.
abbrev pub IsCounted : Session → Type 0
IsCounted s = (machine_of s).steps ≡ s.steps

-- At the start, a session's machine has counted all of the session's steps. If this holds before a command, it holds
-- after the command.
pub record PositionsAreCounted : Type 0 where
  pub new : (program : Listing) (config : Config) (breakpoints : List ℕ)
      → IsCounted (record { program = program; config = config; steps = 0; breakpoints = breakpoints })
  pub kept : (s : Session) (command : Command) → IsCounted s → IsCounted (command_of s command).session

-- A run starts at step n and ends at step r, within its limit. Before r, the machine doesn't stop. Between n and r, the
-- next instruction never has a breakpoint. At r, the run has reached its limit, the machine stops, or, after at least
-- one step, the next instruction has a breakpoint.
pub record EndsFirst (program : Listing) (config : Config) (breakpoints : List ℕ) (n limit r : ℕ) : Type 0 where
  pub from : n ≤ r
  pub up_to : r ≤ n + limit
  pub goes : (m : ℕ) → n ≤ m → m < r → stops_at program config m ≡ false
  pub passes : (m : ℕ) → n < m → m < r → has_break breakpoints (machine_at program config m).pc ≡ false
  pub ends : (r ≡ n + limit) ⊎ ((stops_at program config r ≡ true)
      ⊎ ((n < r) × (has_break breakpoints (machine_at program config r).pc ≡ true)))

-- Every run ends at the first of these: its limit, a stop of the machine, or a step after which the next instruction
-- has a breakpoint.
abbrev pub RunsEndFirst : Type 0
RunsEndFirst = (program : Listing) (config : Config) (breakpoints : List ℕ) (n limit : ℕ)
    → EndsFirst program config breakpoints n limit (run_on program config breakpoints n limit)

-- Assume that a session's machine has counted all of the session's steps, and that these are at least `count` steps.
-- Then going back `count` steps and forward by `count` steps reaches the original step.
abbrev pub BackAndOnAgain : Type 0
BackAndOnAgain = (s : Session) (count : ℕ) → IsCounted s → count ≤ s.steps
    → run_on s.program s.config [] (s.steps - count) count ≡ s.steps
