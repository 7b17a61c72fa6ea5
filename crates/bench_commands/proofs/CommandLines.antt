-- Lemmas about reading one more line of commands.
use Rattle.std.proofs.Common.{◌≡◌, refl, ap, ◌∙◌, ℕ, List, [], ◌∷◌, append-nil, Result, Ok, Err}
use Rattle.debugger.specs.declared.Command.{Command}
use Rattle.text_format.specs.Lines.{NumberedLine}
use Rattle.text_format.specs.Words.{words_of}
use Rattle.bench_commands.specs.Command.{commands_of, commands_then, words_and}

-- The commands on the remaining lines are those on the next line and those on the lines after it.
pub commands_of-line : (lines : List NumberedLine) (line : NumberedLine) (others : List NumberedLine)
    → lines ≡ line ∷ others
    → commands_of lines ≡ words_and line.number (words_of line.text) (commands_of others)
unfolding commands_of
commands_of-line lines line others is = rw is refl

pub commands_of-none : (lines : List NumberedLine) → lines ≡ [] → commands_of lines ≡ Ok []
unfolding commands_of
commands_of-none lines none = rw none refl

pub then-none : (before : List Command) (commands : Result (List Command) ℕ) → commands ≡ Ok []
    → commands_then before commands ≡ Ok before
then-none before commands none = ap (commands_then before) none ∙ ap Ok (append-nil before)

pub then-refused : (before : List Command) (commands : Result (List Command) ℕ) (number : ℕ) → commands ≡ Err number
    → commands_then before commands ≡ Err number
then-refused before commands number is = ap (commands_then before) is
