-- Refusals as text.
use Rattle.std.specs.Prelude.{ℕ, List, ◌++◌, Option, Some, None, codes, decimal}

-- A refusal as text: its name, followed by its number if there is one.
abbrev pub refusal_text : List ℕ → Option ℕ → List ℕ
refusal_text name (Some number) = name ++ (codes " " ++ decimal number)
refusal_text name None = name

-- The line of a refusal.
abbrev pub refusal_line : List ℕ → Option ℕ → List ℕ
refusal_line name number = codes "refused " ++ (refusal_text name number ++ codes "\n")
