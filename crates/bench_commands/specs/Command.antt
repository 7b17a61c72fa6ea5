-- Debugger commands as text.
use Rattle.std.specs.Prelude.{ℕ, List, [], ◌∷◌, ◌++◌, Option, Some, None, Result, Ok, Err, codes, nat_lt, option_and_then, if◌then◌else◌}
use Rattle.std.specs.Option.{option_map}
use Rattle.std.specs.Result.{result_ok}
use Rattle.std.specs.Str.{bytes_eq}
use Rattle.text_format.specs.Lines.{NumberedLine}
use Rattle.text_format.specs.Number.{number_of}
use Rattle.text_format.specs.Words.{words_of}
use Rattle.script_asm.specs.Target.{target_of}
use Rattle.debugger.specs.declared.Command.{Command}
use Rattle.debugger.specs.declared.Command.TheVariants.{Back, Break, Clear, Continue, Show, ShowVf, Step}

-- The number that a word spells, below 2^32.
abbrev pub number_said : List ℕ → Option ℕ
number_said word = result_ok (number_of word)

-- The address that a word specifies, with the same syntax as in scripts.
abbrev pub target_said : List ℕ → Option ℕ
target_said word = result_ok (target_of word)

-- The number, if it is the number of a virtual function, 0 to 62.
abbrev pub if_function : ℕ → Option ℕ
if_function number = if nat_lt number 63 then Some number else None

-- A table's entry for a command's name. A name without an entry isn't a command.
abbrev pub looked_up : List ℕ → List (List ℕ × Option Command) → Option Command
looked_up name [] = None
looked_up name (row ∷ more) = if bytes_eq name row.0 then row.1 else looked_up name more

-- The commands with one operand: `step COUNT`, `back COUNT`, `continue LIMIT`, `break PC`, `clear PC`, `show TARGET`.
abbrev pub table_of_one : List ℕ → List (List ℕ × Option Command)
table_of_one a =
    (codes "step", option_map Step (number_said a)) ∷
    (codes "back", option_map Back (number_said a)) ∷
    (codes "continue", option_map Continue (number_said a)) ∷
    (codes "break", option_map Break (number_said a)) ∷
    (codes "clear", option_map Clear (number_said a)) ∷
    (codes "show", option_map Show (target_said a)) ∷
    []

-- `showvf FUNCTION OFFSET`.
abbrev pub show_vf_said : Option ℕ → Option ℕ → Option Command
show_vf_said (Some function) (Some offset) = Some (ShowVf function offset)
show_vf_said (Some function) None = None
show_vf_said None offset = None

abbrev pub table_of_two : List ℕ → List ℕ → List (List ℕ × Option Command)
table_of_two a b =
    (codes "showvf", show_vf_said (option_and_then if_function (number_said a)) (number_said b)) ∷
    []

-- The command that words spell.
abbrev pub command_said : List (List ℕ) → Option Command
command_said [] = None
command_said (name ∷ []) = None
command_said (name ∷ a ∷ []) = looked_up name (table_of_one a)
command_said (name ∷ a ∷ b ∷ []) = looked_up name (table_of_two a b)
command_said (name ∷ a ∷ b ∷ c ∷ more) = None

-- A line's command, followed by the commands on the lines after it.
abbrev pub command_and : ℕ → Option Command → Result (List Command) ℕ → Result (List Command) ℕ
command_and number None commands = Err number
command_and number (Some command) (Ok commands) = Ok (command ∷ commands)
command_and number (Some command) (Err later) = Err later

-- The command on a line with these words, followed by the commands on the lines after it. A line without words has no
-- command.
abbrev pub words_and : ℕ → List (List ℕ) → Result (List Command) ℕ → Result (List Command) ℕ
words_and number [] commands = commands
words_and number (word ∷ words) commands = command_and number (command_said (word ∷ words)) commands

-- The commands on these lines, or the number of the first line that has words but isn't a command.
unfoldable pub commands_of : List NumberedLine → Result (List Command) ℕ
commands_of [] = Ok []
commands_of (line ∷ others) = words_and line.number (words_of line.text) (commands_of others)

-- These commands, followed by other commands.
abbrev pub commands_then : List Command → Result (List Command) ℕ → Result (List Command) ℕ
commands_then before (Ok commands) = Ok (before ++ commands)
commands_then before (Err number) = Err number
