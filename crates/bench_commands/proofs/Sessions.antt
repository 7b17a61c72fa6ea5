-- Lemmas about the lines that a session has printed so far, and the lines of the remaining commands.
use Rattle.std.proofs.Common.{◌≡◌, ◌+◌, ap, refl, sym, subst, ◌∙◌, ℕ, false, List, [], ◌∷◌, ◌++◌, append-nil, append_assoc, codes, length, Option, Result, Ok, Err}
use Rattle.std.specs.Io.KnownBytes.{Appends}
use Rattle.std.specs.Result.{IsOk}
use Rattle.text_format.specs.Lines.{NumberedLine}
use Rattle.bench_commands.specs.declared.debug_options.DebugOptions.{DebugOptions}
use Rattle.nic_device.specs.declared.Config.{Config}
use Rattle.program.specs.Listing.{Listing}
use Rattle.script_asm.specs.End.{has_end, program_before}
use Rattle.script_asm.specs.declared.ScriptFault.{ScriptFault}
use Rattle.debugger.specs.Commands.{command_of}
use Rattle.debugger.specs.Session.{Session}
use Rattle.debugger.specs.declared.Command.{Command}
use Rattle.debugger.specs.declared.DebugRefusal.{DebugRefusal}
use Rattle.debugger.specs.declared.View.{View}
use Rattle.bench_commands.specs.Answer.{refused_at}
use Rattle.bench_commands.specs.Debug.{commands_answer, debug_config_of, end_of_script, parted_answer, session_of}
use Rattle.bench_commands.specs.Debug.{session_text}
use Rattle.bench_commands.specs.View.{answer_line}
use Rattle.bench_commands.proofs.Appending.{Appends-both}

-- Some commands have run, and their lines are written; the commands in `rest` remain.
pub record IsDuring (old new : Option (List ℕ)) (start now : Session) (all rest : List Command) : Type 0 where
  pub done : List ℕ
  pub written : Appends old new done
  pub whole : done ++ session_text now rest ≡ session_text start all

module _ (old new : Option (List ℕ)) (start now : Session) (all rest : List Command)
    (during : IsDuring old new start now all rest) where
  -- If no command remains, all lines are written.
  pub all-written : rest ≡ [] → Appends old new (session_text start all)
  unfolding session_text
  all-written none = subst (Appends old new) (sym (append-nil during.done)
      ∙ ap (λ rs. during.done ++ session_text now rs) (sym none) ∙ during.whole) during.written

  -- One more command has run, and its line is written.
  pub one-more : (last : Option (List ℕ)) (later : Session) (command : Command) (more : List Command)
      (result : Result View DebugRefusal) → rest ≡ command ∷ more → result ≡ (command_of now command).answer
      → later ≡ (command_of now command).session → Appends new last (answer_line command result)
      → IsDuring old last start later all more
  unfolding session_text
  one-more last later command more result next answer session wrote = record {
    done = during.done ++ answer_line command result;
    written = Appends-both old new last during.done (answer_line command result) during.written wrote;
    whole = append_assoc during.done (answer_line command result) (session_text later more)
        ∙ ap (λ r. during.done ++ (answer_line command r ++ session_text later more)) answer
        ∙ ap (λ s. during.done ++ (answer_line command (command_of now command).answer ++ session_text s more)) session
        ∙ ap (λ rs. during.done ++ session_text now rs) (sym next) ∙ during.whole;
  }

-- The answer reports a faulty command.
pub faulty-command : (config : Config) (program : Listing) (commands : Result (List Command) ℕ) (number : ℕ)
    → commands ≡ Err number → refused_at (codes "Syntax") number ≡ commands_answer config program commands
faulty-command config program commands number is = rw is refl

-- If a script without a fault has no end, the answer reports the missing end.
pub missing-end : (options : DebugOptions) (lines : List NumberedLine) → has_end end_of_script lines ≡ false
    → IsOk (program_before end_of_script lines)
    → refused_at (codes "Syntax") (length lines + 1) ≡ session_of options lines
missing-end options lines none sound = go (program_before end_of_script lines) sound
  where
    go : (program : Result Listing ScriptFault) → IsOk program
        → refused_at (codes "Syntax") (length lines + 1) ≡ parted_answer (debug_config_of options) lines program
    go (Ok program) sound = rw none refl
    go (Err fault) sound = cc
