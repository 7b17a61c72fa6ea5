-- Lemmas about lines with consecutive numbers.
use Rattle.std.proofs.Common.{◌≡◌, ℕ, ◌+◌, List, [], ◌∷◌, refl}
use Rattle.std.specs.Str.Lines.{lines}
use Rattle.text_format.specs.Lines.{NumberedLine, numbered_from, lines_of}

-- The lines have consecutive numbers, starting with this one.
abbrev pub IsNumberedFrom : ℕ → List NumberedLine → Type 0
IsNumberedFrom first [] = Unit {0}
IsNumberedFrom first (line ∷ lines) = (line.number ≡ first) × IsNumberedFrom (first + 1) lines

pub IsNumberedFrom-numbered_from : (first : ℕ) (ls : List (List ℕ)) → IsNumberedFrom first (numbered_from first ls)
IsNumberedFrom-numbered_from first [] = tt
IsNumberedFrom-numbered_from first (line ∷ ls) = (refl, IsNumberedFrom-numbered_from (first + 1) ls)

pub IsNumberedFrom-lines_of : (text : List ℕ) → IsNumberedFrom 1 (lines_of text)
unfolding lines_of
IsNumberedFrom-lines_of text = IsNumberedFrom-numbered_from 1 (lines text)
