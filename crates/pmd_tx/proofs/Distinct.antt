-- Lemmas about lists of different blocks.
use Rattle.std.proofs.Common.{◌≡◌, ℕ, zero, suc, ◌<◌, ◌==◌, ◌||◌, inl, inr, Bool, true, false, All, List, [], ◌∷◌, ◌++◌, length, take, get_or, refl, sym, arith}
use Rattle.std.specs.List.{list_any}
use Rattle.std.proofs.lemmas.Bool.{both_ways, cases_Bool, eqb-true, eq-eqb}
use Rattle.pmd_tx.specs.Shown.{AreDistinct}

-- The number isn't in the list.
abbrev pub Absent : ℕ → List ℕ → Type 0
Absent n xs = list_any (λ b. n == b) xs ≡ false

pub neither : (a b : Bool) → (a || b) ≡ false → (a ≡ false) × (b ≡ false)
neither true b is = cc
neither false b is = (refl, is)

pub none_of : (a b : Bool) → a ≡ false → b ≡ false → (a || b) ≡ false
none_of a b x y = rw (x, y) refl

turned : (n k : ℕ) → (n == k) ≡ false → (k == n) ≡ false
turned n k is = elim (cases_Bool (k == n)) [
  | inl same ↦ absurd (both_ways (n == k) is (eq-eqb n k (sym (eqb-true k n same))))
  | inr other ↦ other
]

absent-append : (n : ℕ) (xs ys : List ℕ) → Absent n xs → Absent n ys → Absent n (xs ++ ys)
absent-append n [] ys a b = b
absent-append n (x ∷ xs) ys a b =
    let parts = neither (n == x) (list_any (λ k. n == k) xs) a in
    none_of (n == x) (list_any (λ k. n == k) (xs ++ ys)) parts.0 (absent-append n xs ys parts.1 b)

absent-of : (n : ℕ) (xs ys : List ℕ) → All (λ (y : ℕ). Absent y (n ∷ xs)) ys → Absent n ys
absent-of n xs [] all = refl
absent-of n xs (y ∷ ys) all =
    let here : Absent y (n ∷ xs) = all 0 0 (omega arith) in
    none_of (n == y) (list_any (λ k. n == k) ys)
    (turned y n (neither (y == n) (list_any (λ k. y == k) xs) here).0)
    (absent-of n xs ys (λ k d below. all (suc k) d (omega arith)))

pub distinct-append : (xs ys : List ℕ) → AreDistinct xs → AreDistinct ys → All (λ (y : ℕ). Absent y xs) ys
    → AreDistinct (xs ++ ys)
distinct-append [] ys a b all = b
distinct-append (x ∷ xs) ys a b all = (
  absent-append x xs ys a.0 (absent-of x xs ys all),
  distinct-append xs ys a.1 b (λ k d below. (neither (get_or ys k d == x) (list_any (λ n. get_or ys k d == n) xs)
      (all k d below)).1),
)

-- The number at an index differs from the numbers before that index.

differs_at : (x : ℕ) (xs : List ℕ) (k : ℕ) → Absent x xs → k < length xs → (get_or xs k 0 == x) ≡ false
differs_at x [] k none below = absurd (omega arith)
differs_at x (y ∷ xs) zero none below = turned x y (neither (x == y) (list_any (λ n. x == n) xs) none).0
differs_at x (y ∷ xs) (suc k) none below =
    differs_at x xs k (neither (x == y) (list_any (λ n. x == n) xs) none).1 (omega arith)

pub before_absent : (xs : List ℕ) (k : ℕ) → AreDistinct xs → k < length xs → Absent (get_or xs k 0) (take k xs)
before_absent [] k apart below = absurd (omega arith)
before_absent (x ∷ xs) zero apart below = refl
before_absent (x ∷ xs) (suc k) apart below =
    none_of (get_or xs k 0 == x) (list_any (λ n. get_or xs k 0 == n) (take k xs))
    (differs_at x xs k apart.0 (omega arith)) (before_absent xs k apart.1 (omega arith))
