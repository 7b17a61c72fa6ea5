-- Proves that the lookup table of digit values is correct.
use Rattle.std.proofs.Common.{◌≡◌, ℕ, suc, zero, ◌+◌, ◌<◌, ◌==◌, ◌&&◌, Bool, true, List, [], ◌∷◌, length, get_or, ap, ◌∙◌, arith}
use Rattle.std.specs.Char.{digit_value}
use Rattle.std.proofs.lemmas.Bool.{and_parts, eqb-true}

-- Each entry at this index or above is the digit value of its index.
abbrev pub has_values : ℕ → List ℕ → Bool
has_values first [] = true
has_values first (value ∷ values) = (value == digit_value first) && has_values (first + 1) values

pub value_at : (first : ℕ) (values : List ℕ) (index : ℕ) → has_values first values ≡ true → index < length values
    → get_or values index 0 ≡ digit_value (first + index)
value_at first [] index has inside = absurd (omega arith)
value_at first (value ∷ values) zero has inside =
    let parts = and_parts (value == digit_value first) (has_values (first + 1) values) has in
    let here : first ≡ first + 0 = omega arith in
    eqb-true value (digit_value first) parts.0 ∙ ap digit_value here
value_at first (value ∷ values) (suc index) has inside =
    let parts = and_parts (value == digit_value first) (has_values (first + 1) values) has in
    let on : first + 1 + index ≡ first + suc index = omega arith in
    value_at (first + 1) values index parts.1 (omega arith) ∙ ap digit_value on
