-- The form of a name.
use Rattle.std.specs.Prelude.{ℕ, Bool, false, ◌||◌, ◌&&◌, List, [], ◌∷◌, ◌==◌}
use Rattle.std.specs.List.{list_all}
use Rattle.std.specs.Char.{is_ascii_alphabetic, is_ascii_digit}

-- A letter or `_`.
abbrev pub begins_name : ℕ → Bool
begins_name byte = is_ascii_alphabetic byte || byte == 95

-- A letter, a digit or `_`.
abbrev pub continues_name : ℕ → Bool
continues_name byte = begins_name byte || is_ascii_digit byte

-- A letter or `_`, followed by any number of letters, digits and `_`.
unfoldable pub is_name : List ℕ → Bool
is_name [] = false
is_name (first ∷ others) = begins_name first && list_all continues_name others
