-- The lines of a text.
use Rattle.std.specs.Prelude.{ℕ, ◌+◌, List, [], ◌∷◌}
use Rattle.std.specs.Str.Lines.{lines}
use Rattle.text_format.specs.declared.lines.Line.{Line}

-- A line with its number in the text.
pub record NumberedLine : Type 0 where
  pub number : ℕ
  pub text : List ℕ

-- The lines with consecutive numbers, starting at `first`.
abbrev pub numbered_from : ℕ → List (List ℕ) → List NumberedLine
numbered_from first [] = []
numbered_from first (line ∷ more) = record { number = first; text = line } ∷ numbered_from (first + 1) more

-- The lines of a text, numbered from 1. Each line ends in LF or CR LF; the last one may lack its end.
unfoldable pub lines_of : List ℕ → List NumberedLine
lines_of text = numbered_from 1 (lines text)

-- The number and text of a line that the iterator returned.
abbrev pub line_of : Line → NumberedLine
line_of line = record { number = line.number; text = line.text.now }
