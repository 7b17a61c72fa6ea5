-- Folds over a range of numbers.
use Rattle.std.proofs.Common.{◌≡◌, ℕ, zero, suc, ◌+◌, ap, ◌∙◌, arith}
use Rattle.std.specs.Prelude.{fold}
use Rattle.std.specs.List.{range_with_len}

-- If the range has one more number, the fold takes one more step.
pub fold-range_more : {A : Type 0} (step : A → ℕ → A) (r : A) (a n j : ℕ) → a + n ≡ j
    → fold step r (range_with_len a (n + 1)) ≡ step (fold step r (range_with_len a n)) j
fold-range_more step r a zero j e = let same : a ≡ j = omega arith in ap (step r) same
fold-range_more step r a (suc n) j e =
    let same : suc n + 1 ≡ suc (n + 1) = omega arith in
    ap (λ m. fold step r (range_with_len a m)) same ∙ fold-range_more step (step r a) (a + 1) n j (omega arith)
