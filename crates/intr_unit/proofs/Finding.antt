-- Lemmas about searching a range of numbers for the first number that passes a test.
use Rattle.std.proofs.Common.{◌≡◌, ℕ, zero, suc, ◌+◌, ◌<◌, ◌≤◌, Bool, true, false, cond, refl, sym, ap, ◌∙◌}
use Rattle.std.proofs.Common.{arith, inl, inr}
use Rattle.std.specs.Prelude.{Option, Some, None}
use Rattle.std.specs.List.{find, range_with_len}
use Rattle.std.proofs.lemmas.Bool.{cases_lt}

pub find-first : (test : ℕ → Bool) (n from k : ℕ) → from ≤ k → k < from + n → test k ≡ true →
    ((i : ℕ) → i < k → test i ≡ false) → find test (range_with_len from n) ≡ Some k
find-first test zero from k le lt here before = absurd (omega arith)
find-first test (suc n) from k le lt here before =
    elim (cases_lt from k) [
      | inl below ↦ rw (before from below) (find-first test n (from + 1) k (omega arith) (omega arith) here before)
      | inr at ↦ let e : from ≡ k = omega arith in rw (e, here)
    ]

pub find-none : (test : ℕ → Bool) (n from : ℕ) → ((i : ℕ) → i < from + n → test i ≡ false) →
    find test (range_with_len from n) ≡ None
find-none test zero from none = refl
find-none test (suc n) from none =
    rw (none from (omega arith)) (find-none test n (from + 1) (λ i h. none i (omega arith)))

-- The number is what `find` returns for a range: the first number that passes the test.
pub record IsFirst (test : ℕ → Bool) (from below k : ℕ) : Type 0 where
  pub low : from ≤ k
  pub high : k < below
  pub passes : test k ≡ true
  pub before : (i : ℕ) → from ≤ i → i < k → test i ≡ false

first-cons : (test : ℕ → Bool) (n from k : ℕ) (b : Bool) (rest : Option ℕ) → test from ≡ b →
    (rest ≡ Some k → IsFirst test (from + 1) (from + 1 + n) k) → cond b (Some from) rest ≡ Some k →
    IsFirst test from (from + suc n) k
first-cons test n from k true rest here later e =
    let at : from ≡ k = cc in
    record {
      low = omega arith;
      high = omega arith;
      passes = sym (ap test at) ∙ here;
      before = λ i lo hi. absurd (omega arith);
    }
first-cons test n from k false rest here later e =
    let first = later e in
    record {
      low = omega (arith, first.low);
      high = omega (arith, first.high);
      passes = first.passes;
      before = λ i lo hi. elim (cases_lt from i) [
        | inl above ↦ first.before i (omega arith) hi
        | inr at ↦ let same : i ≡ from = omega arith in ap test same ∙ here
      ];
    }

pub find-first_of : (test : ℕ → Bool) (n from k : ℕ) → find test (range_with_len from n) ≡ Some k →
    IsFirst test from (from + n) k
find-first_of test zero from k e = cc
find-first_of test (suc n) from k e =
    first-cons test n from k (test from) (find test (range_with_len (from + 1) n)) refl
    (find-first_of test n (from + 1) k) e

none-cons : (test : ℕ → Bool) (n from : ℕ) (b : Bool) (rest : Option ℕ) → test from ≡ b →
    (rest ≡ None → (i : ℕ) → from + 1 ≤ i → i < from + 1 + n → test i ≡ false) →
    cond b (Some from) rest ≡ None → (i : ℕ) → from ≤ i → i < from + suc n → test i ≡ false
none-cons test n from true rest here later e i low high = cc
none-cons test n from false rest here later e i low high =
    elim (cases_lt from i) [
      | inl above ↦ later e i (omega arith) (omega arith)
      | inr at ↦ let same : i ≡ from = omega arith in ap test same ∙ here
    ]

pub find-none_of : (test : ℕ → Bool) (n from : ℕ) → find test (range_with_len from n) ≡ None →
    (i : ℕ) → from ≤ i → i < from + n → test i ≡ false
find-none_of test zero from e i low high = absurd (omega arith)
find-none_of test (suc n) from e i low high =
    none-cons test n from (test from) (find test (range_with_len (from + 1) n)) refl
    (find-none_of test n (from + 1)) e i low high
