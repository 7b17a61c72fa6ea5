use Rattle.std.proofs.Common.{◌≡◌, ℕ, zero, suc, ◌+◌, ◌-◌, ◌&&◌, Bool, true, false, cond, Option, List, [], ◌∷◌, map, length, get_or, replicate, eqb, refl, ap, ◌∙◌, arith}
use Rattle.std.specs.Prelude.{count_by, is_some}
use Rattle.std.specs.List.{list_all}
use Rattle.std.proofs.lemmas.Bool.{ne_eqb}
use Rattle.std.proofs.lemmas.Bool.Decides.{nat_tests}
use Rattle.std.proofs.lemmas.List.Sums.{sum_by-cons, count_by-le-length}
use Rattle.dma_arena.specs.Numbers.{Numbers, free_count, is_free}

-- Lists of marks.

-- A list in which all marks are set.
pub all_set-is : (xs : List Bool) → list_all (λ x. x) xs ≡ true → xs ≡ replicate (length xs) true
all_set-is [] h = refl
all_set-is (true ∷ xs) h = ap (λ ys. true ∷ ys) (all_set-is xs h)
all_set-is (false ∷ xs) h = cc

one_more : (a b c : ℕ) → a ≡ 1 + b → eqb a (suc c) ≡ eqb b c
one_more a b c e = grind (arith, nat_tests)

-- All marks are set if their count is the list's length.
pub all_counted : (xs : List Bool) → eqb (count_by (λ x. x) xs) (length xs) ≡ list_all (λ x. x) xs
all_counted [] = refl
all_counted (true ∷ xs) = one_more _ _ _ (sum_by-cons (λ (x : Bool). cond x 1 0) true xs) ∙ all_counted xs
all_counted (false ∷ xs) = ne_eqb _ _ (omega (arith, count_by-le-length (λ x. x) xs))

-- No mark is set if the count is 0.
pub get_or-of_no_count : (xs : List Bool) (k : ℕ) → count_by (λ x. x) xs ≡ 0 → get_or xs k false ≡ false
get_or-of_no_count [] k h = refl
get_or-of_no_count (true ∷ xs) k h = absurd (omega (arith, sum_by-cons (λ (x : Bool). cond x 1 0) true xs))
get_or-of_no_count (false ∷ xs) zero h = refl
get_or-of_no_count (false ∷ xs) (suc k) h = get_or-of_no_count xs k h

pub count_by-of_none : (xs : List Bool) → ((k : ℕ) → get_or xs k false ≡ false) → count_by (λ x. x) xs ≡ 0
count_by-of_none [] none = refl
count_by-of_none (true ∷ xs) none = let h : true ≡ false = none 0 in cc
count_by-of_none (false ∷ xs) none = count_by-of_none xs (λ k. none (suc k))

-- The slots of an arena.

module _ {A : Type 0} where
  -- The numbers that the slots represent.
  abbrev pub marks : ℕ → List (Option A) → Numbers
  marks first slots = record { first = first; free = map is_some slots }

-- Each slot of an arena has a number of the arena.

-- Laws of an arena's numbers.

and_false : (x : Bool) → (x && false) ≡ false
and_false true = refl
and_false false = refl

-- No number is free if the count is 0.
pub is_free-of_no_count : (a : Numbers) (number : ℕ) → free_count a ≡ 0 → is_free a number ≡ false
is_free-of_no_count a number none = rw (get_or-of_no_count a.free (number - a.first) none) (and_false _)
