-- Scripts that end at a marker line, after which other lines may follow.
use Rattle.std.specs.Prelude.{ℕ, Bool, false, List, [], ◌∷◌, Result}
use Rattle.script_asm.specs.Prelude.{Listing, NumberedLine, after_first, before_first, bytes_eq, list_any, words_of}
use Rattle.script_asm.specs.Script.{program_of_lines}
use Rattle.script_asm.specs.declared.faults.ScriptFault.{ScriptFault}

-- Whether the line consists of this word only.
abbrev pub is_only : List ℕ → List (List ℕ) → Bool
is_only word [] = false
is_only word (one ∷ []) = bytes_eq one word
is_only word (one ∷ other ∷ more) = false

-- Whether the line ends the script: its only word is the marker.
abbrev pub is_end : List ℕ → NumberedLine → Bool
is_end end line = is_only end (words_of line.text)

-- Whether a line ends the script.
abbrev pub has_end : List ℕ → List NumberedLine → Bool
has_end end lines = list_any (is_end end) lines

-- The program of the lines before the first marker line, or of all lines if there is no marker line.
abbrev pub program_before : List ℕ → List NumberedLine → Result Listing ScriptFault
program_before end lines = program_of_lines (before_first (is_end end) lines)

-- The lines after the first marker line.
abbrev pub lines_after : List ℕ → List NumberedLine → List NumberedLine
lines_after end lines = after_first (is_end end) lines
