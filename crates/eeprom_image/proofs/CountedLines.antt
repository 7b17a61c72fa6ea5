-- Lemmas about counting lines.
use Rattle.std.proofs.Common.{◌≡◌, ℕ, ◌+◌, ◌≤◌, List, ◌∷◌, length, ap, subst, arith}
use Rattle.text_format.specs.Lines.{NumberedLine}
use Rattle.eeprom_image.proofs.Numbered.{IsNumberedFrom}

-- Of `all` lines, `count` lines come before the lines in `rest`.
pub record CountsOn (count : ℕ) (rest : List NumberedLine) (all : ℕ) : Type 0 where
  pub numbered : IsNumberedFrom (count + 1) rest
  pub whole : count + length rest ≡ all

-- The next line has the next number.
pub CountsOn-next : (count all : ℕ) (rest after : List NumberedLine) (line : NumberedLine) → CountsOn count rest all
    → rest ≡ line ∷ after → (line.number ≡ count + 1) × CountsOn (count + 1) after all
CountsOn-next count all rest after line counts is =
    let numbered = subst (IsNumberedFrom (count + 1)) is counts.numbered in
    (numbered.0, record { numbered = numbered.1; whole = omega (arith, counts.whole, ap length is) })

pub CountsOn-le : (count all : ℕ) (rest : List NumberedLine) → CountsOn count rest all → count ≤ all
CountsOn-le count all rest counts = omega (arith, counts.whole)
