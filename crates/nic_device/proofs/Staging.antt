-- Dropping the staged bytes of one queue after another.
use Rattle.std.proofs.Common.{◌≡◌, ◌<◌, ℕ, zero, suc, List, [], ◌∷◌, ◌++◌, length, drop, refl, ap, arith}
use Rattle.std.proofs.Math.ListN.{set}
use Rattle.std.proofs.lemmas.List.{set-set}
use Rattle.std.specs.Prelude.{replicate}

pub set-next : (xs : List (List ℕ)) (n : ℕ) → n < length xs
    → set (replicate n [] ++ drop n xs) n [] ≡ replicate (suc n) [] ++ drop (suc n) xs
set-next [] n h = absurd (omega (arith, h))
set-next (x ∷ xs) zero h = refl
set-next (x ∷ xs) (suc n) h = ap (λ ys. [] ∷ ys) (set-next xs n (omega (arith, h)))

-- Setting the same queue's staged bytes twice.
pub set-again : (xs ys : List (List ℕ)) (i j n : ℕ) (x y : List ℕ) → i ≡ n → j ≡ n → y ≡ [] → xs ≡ ys
    → set (set xs i x) j y ≡ set ys n []
set-again xs ys i j n x y first second none same = rw (first, second, none, same) (set-set ys n x [])
