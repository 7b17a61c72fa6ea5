-- EEPROM source has at most as many lines as bytes.
use Rattle.std.proofs.Common.{ℕ, ◌+◌, ◌≤◌, ◌==◌, Bool, true, false, List, [], ◌∷◌, length, cond, refl, ◌≡◌, arith}
use Rattle.std.specs.List.{slice_split, onto_first}
use Rattle.std.specs.Str.Lines.{lines, lines_of_parts}
use Rattle.text_format.specs.Lines.{numbered_from, lines_of}

-- One more newline adds at most one line.
at_newline : (parts : List (List ℕ)) → length (lines_of_parts ([] ∷ parts)) ≤ length (lines_of_parts parts) + 1
at_newline [] = omega arith
at_newline (part ∷ parts) = omega arith

one_line : (empty : Bool) (part : List ℕ) → length (cond empty [] (part ∷ [])) ≤ 1
one_line true part = omega arith
one_line false part = omega arith

-- One more byte other than a newline adds at most one line.
at_other : (byte : ℕ) (parts : List (List ℕ))
    → length (lines_of_parts (onto_first byte parts)) ≤ length (lines_of_parts parts) + 1
at_other byte [] = omega arith
at_other byte (part ∷ []) = omega (arith, one_line (length (byte ∷ part) == 0) (byte ∷ part))
at_other byte (part ∷ next ∷ parts) = omega arith

step : (newline : Bool) (byte : ℕ) (parts : List (List ℕ))
    → length (lines_of_parts (cond newline ([] ∷ parts) (onto_first byte parts))) ≤ length (lines_of_parts parts) + 1
step true byte parts = at_newline parts
step false byte parts = at_other byte parts

length-lines-le : (text : List ℕ) → length (lines text) ≤ length text
length-lines-le [] = omega arith
length-lines-le (byte ∷ text) =
    let first = step (byte == 10) byte (slice_split (λ b. b == 10) text) in
    let rest = length-lines-le text in
    omega arith

length-numbered_from : (first : ℕ) (ls : List (List ℕ)) → length (numbered_from first ls) ≡ length ls
length-numbered_from first [] = refl
length-numbered_from first (line ∷ ls) = let rest = length-numbered_from (first + 1) ls in omega arith

pub length-lines_of-le : (text : List ℕ) → length (lines_of text) ≤ length text
unfolding lines_of
length-lines_of-le text = omega (arith, length-numbered_from 1 (lines text), length-lines-le text)
