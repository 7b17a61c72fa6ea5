-- The debugger's output.
use Rattle.std.specs.Prelude.{ℕ, List, ◌++◌, Option, Some, None, Result, Ok, Err, codes, decimal}
use Rattle.debugger.specs.declared.Command.{Command}
use Rattle.debugger.specs.declared.Command.TheVariants.{Back, Break, Clear, Continue, Show, ShowVf, Step}
use Rattle.debugger.specs.declared.DebugRefusal.{DebugRefusal}
use Rattle.debugger.specs.declared.DebugRefusal.TheVariants as refusal
use Rattle.debugger.specs.declared.View.{View}
use Rattle.machine.specs.declared.Status.{Status}
use Rattle.machine.specs.declared.Status.TheVariants.{Ended, Failed, Running}
use Rattle.text_format.specs.Word.{address_text, word_text}
use Rattle.bench_commands.specs.Refusal.{refusal_line}

-- The status of a machine, as text.
abbrev pub status_text : Status → List ℕ
status_text Running = codes "running"
status_text Ended = codes "ended"
status_text (Failed at have want) = codes "failed"

-- The state of a machine, as text: its steps, its next instruction, its accumulator and its status.
abbrev pub view_text : View → List ℕ
view_text view = codes "at " ++ (decimal view.steps ++ (codes " pc " ++ (decimal view.pc
    ++ (codes " acc " ++ (word_text view.acc ++ (codes " " ++ status_text view.status))))))

-- An address, and the result of reading it.
abbrev pub shown_text : ℕ → Option ℕ → List ℕ
shown_text address (Some word) = address_text address ++ (codes " " ++ word_text word)
shown_text address None = address_text address ++ codes " stray"

-- The line of an executed command: a show command prints what was requested, and any other command prints the machine's
-- state.
abbrev pub done_text : Command → View → List ℕ
done_text (Show address) view = shown_text address view.shown
done_text (ShowVf function offset) view = shown_text offset view.shown
done_text (Step count) view = view_text view
done_text (Back count) view = view_text view
done_text (Continue limit) view = view_text view
done_text (Break pc) view = view_text view
done_text (Clear pc) view = view_text view

-- The name of the reason why a command is refused.
abbrev pub refusal_name : DebugRefusal → List ℕ
refusal_name refusal.AtStart = codes "AtStart"
refusal_name refusal.NoSuchPc = codes "NoSuchPc"
refusal_name refusal.TooManyBreaks = codes "TooManyBreaks"
refusal_name refusal.OutOfMemory = codes "OutOfMemory"

-- The line for a command that was executed or refused.
abbrev pub answer_line : Command → Result View DebugRefusal → List ℕ
answer_line command (Ok view) = done_text command view ++ codes "\n"
answer_line command (Err refusal) = refusal_line (refusal_name refusal) None
