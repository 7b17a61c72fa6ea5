-- The output of `nicbench debug`.
use Rattle.std.specs.Prelude.{ℕ, ◌+◌, List, [], ◌∷◌, ◌++◌, Result, Ok, Err, codes, length, if◌then◌else◌}
use Rattle.text_format.specs.Lines.{NumberedLine, lines_of}
use Rattle.bench_commands.specs.declared.debug_options.DebugOptions.{DebugOptions}
use Rattle.nic_device.specs.declared.Config.{Config}
use Rattle.program.specs.Listing.{Listing}
use Rattle.script_asm.specs.End.{has_end, lines_after, program_before}
use Rattle.script_asm.specs.declared.ScriptFault.{ScriptFault}
use Rattle.debugger.specs.Commands.{command_of}
use Rattle.debugger.specs.Session.{Session}
use Rattle.debugger.specs.declared.Command.{Command}
use Rattle.bench_commands.specs.Answer.{Answer, refused_at}
use Rattle.bench_commands.specs.Command.{commands_of}
use Rattle.bench_commands.specs.Run.{made_with, script_refused}
use Rattle.bench_commands.specs.View.{answer_line}

-- A session before its first command.
abbrev pub new_session : Config → Listing → Session
new_session config program = record { program = program; config = config; steps = 0; breakpoints = [] }

-- The lines that a session's commands print. Each command is executed in the session that results from the commands
-- before it.
unfoldable pub session_text : Session → List Command → List ℕ
session_text session [] = []
session_text session (command ∷ more) =
    answer_line command (command_of session command).answer ++ session_text (command_of session command).session more

-- The answer of a session. The status is 0 even if a command is refused.
abbrev pub session_answer : Session → List Command → Answer
session_answer session commands = record { text = session_text session commands; status = 0 }

-- The answer of a program's session, if a controller with this configuration can be created. If a line isn't a command,
-- the line is refused before anything is written.
abbrev pub commands_answer : Config → Listing → Result (List Command) ℕ → Answer
commands_answer config program (Ok commands) =
    made_with config (session_answer (new_session config program) commands)
commands_answer config program (Err number) = refused_at (codes "Syntax") number

-- The only word on the line that ends the script.
abbrev pub end_of_script : List ℕ
end_of_script = codes "%"

-- The answer to the commands on the lines after the script's end. If the script has no end, the line after the last
-- line is reported as missing.
abbrev pub session_after : Config → List NumberedLine → Listing → Answer
session_after config lines program = if has_end end_of_script lines
    then commands_answer config program (commands_of (lines_after end_of_script lines))
    else refused_at (codes "Syntax") (length lines + 1)

-- The answer to a script and the lines after the script. A fault in the script is reported before a fault in the lines
-- after it.
abbrev pub parted_answer : Config → List NumberedLine → Result Listing ScriptFault → Answer
parted_answer config lines (Ok program) = session_after config lines program
parted_answer config lines (Err fault) = script_refused fault

-- The controller that the options request.
abbrev pub debug_config_of : DebugOptions → Config
debug_config_of options = record { vfs = options.vfs; fifo = options.fifo }

-- The answer to the lines of an input.
abbrev pub session_of : DebugOptions → List NumberedLine → Answer
session_of options lines = parted_answer (debug_config_of options) lines (program_before end_of_script lines)

-- The answer to an input's text.
abbrev pub debug_answer : DebugOptions → List ℕ → Answer
debug_answer options text = session_of options (lines_of text)
