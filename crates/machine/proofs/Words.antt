-- Lemmas about a word among the bytes of a peek.
use Rattle.std.proofs.Common.{◌≡◌, ℕ, ◌+◌, ◌-◌, ◌*◌, ◌^◌, ◌≤◌, List, length, take, drop, slice_index, ap, ◌∙◌, arith, length-drop}
use Rattle.std.proofs.lemmas.List.{get_or-drop, take_all}
use Rattle.byteorder.specs.Endian.{little_number}

-- The little-endian word in the four bytes that start at an index.
little_number-drop : (bytes : List ℕ) (n : ℕ) → little_number 4 (drop n bytes)
    ≡ slice_index bytes n + 2 ^ 8 * slice_index bytes (n + 1) + 2 ^ 16 * slice_index bytes (n + 2)
    + 2 ^ 24 * slice_index bytes (n + 3)
little_number-drop bytes n =
    let same : n + 0 ≡ n = omega arith in
    let first : slice_index (drop n bytes) 0 ≡ slice_index bytes n =
    get_or-drop n bytes 0 0 ∙ ap (λ m. slice_index bytes m) same in
    omega (arith, first, get_or-drop n bytes 1 0, get_or-drop n bytes 2 0, get_or-drop n bytes 3 0)

-- The little-endian word in a part that extends to the end of the bytes.
pub little_number-rest : (bytes : List ℕ) (n most : ℕ) → length bytes ≡ most
    → little_number 4 (take (most - n) (drop n bytes))
    ≡ slice_index bytes n + 2 ^ 8 * slice_index bytes (n + 1) + 2 ^ 16 * slice_index bytes (n + 2)
    + 2 ^ 24 * slice_index bytes (n + 3)
little_number-rest bytes n most len =
    let fits : length (drop n bytes) ≤ most - n = omega (arith, len, length-drop n bytes) in
    ap (little_number 4) (take_all (most - n) (drop n bytes) fits) ∙ little_number-drop bytes n
