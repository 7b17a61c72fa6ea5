-- The result of a search through the numbers below a bound.
use Rattle.std.proofs.Common.{◌≡◌, ℕ, zero, suc, ◌+◌, ◌<◌, ◌≤◌, Bool, true, false, cond}
use Rattle.std.proofs.Common.{List, Option, Some, None, refl, inl, inr, arith}
use Rattle.std.specs.Prelude.{find, is_some}
use Rattle.std.specs.List.{range_with_len}
use Rattle.std.proofs.lemmas.Bool.{cases_lt}
use Rattle.register_file.specs.Registers.{Registers}
use Rattle.rx_filter.specs.Address.{matches, first_match}
use Rattle.rx_filter.specs.Pools.{selects, lowest_pool}
use Rattle.rx_filter.specs.Laws.{IsAddressed}

find-first : (test : ℕ → Bool) (n from k : ℕ) → from ≤ k → k < from + n → test k ≡ true →
    ((i : ℕ) → i < k → test i ≡ false) → find test (range_with_len from n) ≡ Some k
find-first test zero from k le lt here before = absurd (omega arith)
find-first test (suc n) from k le lt here before =
    elim (cases_lt from k) as (λ _. find test (range_with_len from (suc n)) ≡ Some k) [
      | inl below ↦ rw (before from below) (find-first test n (from + 1) k (omega arith) (omega arith) here before)
      | inr past ↦ let same : from ≡ k = omega arith in rw (same, here) refl
    ]

find-none : (test : ℕ → Bool) (n from : ℕ) → ((i : ℕ) → i < from + n → test i ≡ false) →
    find test (range_with_len from n) ≡ None
find-none test zero from none = refl
find-none test (suc n) from none =
    rw (none from (omega arith)) (find-none test n (from + 1) (λ i h. none i (omega arith)))

found_or : (here : Bool) (k : ℕ) (rest : Option ℕ) → is_some rest ≡ true → is_some (cond here (Some k) rest) ≡ true
found_or true k rest e = refl
found_or false k rest e = e

find-is_some : (test : ℕ → Bool) (n from k : ℕ) → from ≤ k → k < from + n → test k ≡ true →
    is_some (find test (range_with_len from n)) ≡ true
find-is_some test zero from k le lt here = absurd (omega arith)
find-is_some test (suc n) from k le lt here =
    elim (cases_lt from k) as (λ _. is_some (find test (range_with_len from (suc n))) ≡ true) [
      | inl below ↦
          found_or (test from) from (find test (range_with_len (from + 1) n))
          (find-is_some test n (from + 1) k (omega arith) (omega arith) here)
      | inr past ↦ let same : from ≡ k = omega arith in rw (same, here) refl
    ]

record IsFound (test : ℕ → Bool) (from below : ℕ) : Type 0 where
  number : ℕ
  high : number < below
  passes : test number ≡ true

found-cons : (test : ℕ → Bool) (n from : ℕ) (b : Bool) (rest : Option ℕ) → test from ≡ b →
    (is_some rest ≡ true → IsFound test (from + 1) (from + 1 + n)) → is_some (cond b (Some from) rest) ≡ true →
    IsFound test from (from + suc n)
found-cons test n from true rest here later e = record { number = from; high = omega arith; passes = here }
found-cons test n from false rest here later e =
    let found = later e in
    record { number = found.number; high = omega (arith, found.high); passes = found.passes }

-- A number that a search finds passes the test.
find-passes : (test : ℕ → Bool) (n from : ℕ) → is_some (find test (range_with_len from n)) ≡ true →
    IsFound test from (from + n)
find-passes test zero from e = cc
find-passes test (suc n) from e =
    found-cons test n from (test from) (find test (range_with_len (from + 1) n)) refl (find-passes test n (from + 1)) e

pub first_match-addressed : (r : Registers) (frame : List ℕ) → is_some (first_match r frame) ≡ true →
    IsAddressed r frame
unfolding first_match
first_match-addressed r frame e =
    let found = find-passes (matches r frame) 128 0 e in
    (found.number, (omega (arith, found.high), found.passes))

pub first_match-some : (r : Registers) (frame : List ℕ) (k : ℕ) → k < 128 → matches r frame k ≡ true →
    ((i : ℕ) → i < k → matches r frame i ≡ false) → first_match r frame ≡ Some k
unfolding first_match
first_match-some r frame k small here before = find-first (matches r frame) 128 0 k (omega arith) small here before

pub first_match-none : (r : Registers) (frame : List ℕ) → ((i : ℕ) → i < 128 → matches r frame i ≡ false) →
    first_match r frame ≡ None
unfolding first_match
first_match-none r frame none = find-none (matches r frame) 128 0 none

pub first_match-is_some : (r : Registers) (frame : List ℕ) (k : ℕ) → k < 128 → matches r frame k ≡ true →
    is_some (first_match r frame) ≡ true
unfolding first_match
first_match-is_some r frame k small here = find-is_some (matches r frame) 128 0 k (omega arith) small here

pub lowest_pool-some : (r : Registers) (index k : ℕ) → k < 64 → selects r index k ≡ true →
    ((i : ℕ) → i < k → selects r index i ≡ false) → lowest_pool r index ≡ Some k
unfolding lowest_pool
lowest_pool-some r index k small here before = find-first (selects r index) 64 0 k (omega arith) small here before

pub lowest_pool-none : (r : Registers) (index : ℕ) → ((i : ℕ) → i < 64 → selects r index i ≡ false) →
    lowest_pool r index ≡ None
unfolding lowest_pool
lowest_pool-none r index none = find-none (selects r index) 64 0 none
