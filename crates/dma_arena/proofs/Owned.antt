-- Lemmas about the numbers that an arena owns, and the numbers that are free in it.
use Rattle.std.proofs.Common.{◌≡◌, ℕ, zero, suc, ◌+◌, ◌-◌, ◌<◌, ◌≤◌, Bool, true, false, List, [], ◌∷◌, length, get_or, refl, arith}
use Rattle.std.specs.Prelude.{nat_le, nat_lt}
use Rattle.std.proofs.lemmas.Bool.{and_parts, leb-true, ltb-true, le-leb, lt-ltb}
use Rattle.dma_arena.specs.Numbers.{Numbers, is_own, is_free}

pub own_within : (a : Numbers) (number : ℕ) → is_own a number ≡ true → (a.first ≤ number)
    × (number < a.first + length a.free)
own_within a number own =
    let both = and_parts (nat_le a.first number) (nat_lt number (a.first + length a.free)) own in
    (leb-true a.first number both.0, ltb-true number (a.first + length a.free) both.1)

pub own_of_within : (a : Numbers) (number : ℕ) → a.first ≤ number → number < a.first + length a.free
    → is_own a number ≡ true
own_of_within a number low high = rw (le-leb a.first number low, lt-ltb number (a.first + length a.free) high) refl

pub is_free_from : (a : Numbers) (number : ℕ) → a.first ≤ number
    → is_free a number ≡ get_or a.free (number - a.first) false
is_free_from a number low = rw (le-leb a.first number low) refl

pub set_within : (xs : List Bool) (k : ℕ) → get_or xs k false ≡ true → k < length xs
set_within [] k h = cc
set_within (x ∷ xs) zero h = omega arith
set_within (x ∷ xs) (suc k) h = omega (arith, set_within xs k h)

-- The arena owns each number that is free in it.
pub is_own-of_free : (a : Numbers) (number : ℕ) → is_free a number ≡ true → is_own a number ≡ true
is_own-of_free a number free =
    let both = and_parts (nat_le a.first number) (get_or a.free (number - a.first) false) free in
    let low : a.first ≤ number = leb-true a.first number both.0 in
    let within : number - a.first < length a.free = set_within a.free (number - a.first) both.1 in
    own_of_within a number low (omega arith)
