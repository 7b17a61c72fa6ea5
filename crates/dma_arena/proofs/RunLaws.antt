-- Lemmas that prove the laws about runs.
use Rattle.std.proofs.Common.{◌≡◌, ℕ, zero, suc, ◌+◌, ◌-◌, ◌<◌, ◌≤◌, ◌⊎◌, inl, inr, Bool, true, false, cond, eqb, Option, Some, None, List, ◌∷◌, ◌++◌, refl, sym, ap, ◌∙◌, arith}
use Rattle.std.proofs.lemmas.Bool.{cases_lt, cases_eq}
use Rattle.std.proofs.lemmas.List.Sums.{sum_by-append, sum_by-cons}
use Rattle.dma_arena.specs.Memory.{Memory}
use Rattle.dma_arena.specs.Numbers.{Numbers, count_of, free_count, is_own, is_free}
use Rattle.dma_arena.specs.Run.{are_free, run_from, run_in, run_numbers, without_run, IsFreeRun, IsNoRun, IsLowestRun}
use Rattle.dma_arena.specs.Laws.{LowestLaw, RunLaw}
use Rattle.dma_arena.specs.Whereabouts.{times_in_hand, EachOnce, RunsKeepEachOnce}
use Rattle.dma_arena.proofs.Arenas.{not_free, free_count_taken}
use Rattle.dma_arena.proofs.Counts.{times_first, times_rest}
use Rattle.dma_arena.proofs.Owned.{own_within}
use Rattle.dma_arena.proofs.Places.{moves_keep_each_once}
use Rattle.dma_arena.proofs.Runs.{found_free, next_free, is_own-without_run, is_free-without_other, is_free-without_run}

-- The lowest run.

-- If not all numbers of a run are free, one of them isn't free.
pub one_taken : (a : Numbers) (first count : ℕ) (free : Bool) → is_free a first ≡ free → are_free a first count ≡ false
    → IsNoRun a first count
unfolding are_free
one_taken a first zero free is none = cc
one_taken a first (suc n) false is none = let e : first + 0 ≡ first = omega arith in (0, omega arith, rw e is)
one_taken a first (suc n) true is none =
    let rest : are_free a (first + 1) n ≡ false = rw is at none in
    let next = one_taken a (first + 1) n (is_free a (first + 1)) refl rest in
    let e : first + suc next.0 ≡ first + 1 + next.0 = omega arith in
    (suc next.0, omega (arith, next.1), rw e next.2)

-- No run begins outside the arena.
none_outside : (a : Numbers) (number count : ℕ) → 0 < count → is_own a number ≡ false → IsNoRun a number count
none_outside a number count some foreign =
    let e : number + 0 ≡ number = omega arith in
    (0, some, rw e (not_free a number (is_free a number) refl foreign))

-- If the search passes over a number, not all numbers of the run that begins there are free.
passed : (a : Numbers) (count number left first q : ℕ) (free : Bool) → are_free a number count ≡ free
    → run_from a count number left ≡ Some first → number ≤ q → q < first → are_free a q count ≡ false
unfolding run_from
passed a count number zero first q free is found low high = cc
passed a count number (suc left) first q true is found low high =
    let here : Some number ≡ Some first = rw is at found in
    let e : number ≡ first = cc in
    absurd (omega (arith, e, low, high))
passed a count number (suc left) first q false is found low high =
    let rest : run_from a count (number + 1) left ≡ Some first = rw is at found in
    elim (cases_eq q number) [
      | inl e ↦ rw e is
      | inr ne ↦
          passed a count (number + 1) left first q (are_free a (number + 1) count) refl rest
          (omega (arith, low, ne)) high
    ]

nowhere : (a : Numbers) (count number left q : ℕ) (free : Bool) → are_free a number count ≡ free
    → run_from a count number left ≡ None → number ≤ q → q < number + left → are_free a q count ≡ false
unfolding run_from
nowhere a count number zero q free is none low high = absurd (omega (arith, low, high))
nowhere a count number (suc left) q true is none low high =
    let here : Some number ≡ None = rw is at none in
    cc
nowhere a count number (suc left) q false is none low high =
    let rest : run_from a count (number + 1) left ≡ None = rw is at none in
    elim (cases_eq q number) [
      | inl e ↦ rw e is
      | inr ne ↦
          nowhere a count (number + 1) left q (are_free a (number + 1) count) refl rest
          (omega (arith, low, ne)) (omega (arith, high))
    ]

by_own : (a : Numbers) (number count : ℕ) (own : Bool) → 0 < count → is_own a number ≡ own
    → (is_own a number ≡ true → are_free a number count ≡ false) → IsNoRun a number count
by_own a number count false some is taken = none_outside a number count some is
by_own a number count true some is taken =
    one_taken a number count (is_free a number) refl (taken is)

lowest_found : (a : Numbers) (count first : ℕ) → 0 < count → run_in a count ≡ Some first → IsLowestRun a count first
lowest_found a count first some found = record {
  free = found_free a count first found;
  lowest = λ number lt.
      by_own a number count (is_own a number) some refl (λ own.
      passed a count a.first (a.first + count_of a - a.first) first number (are_free a a.first count) refl found
      (own_within a number own).0 lt);
}

none_found : (a : Numbers) (count number : ℕ) → 0 < count → run_in a count ≡ None → IsNoRun a number count
none_found a count number some none =
    by_own a number count (is_own a number) some refl (λ own.
    nowhere a count a.first (a.first + count_of a - a.first) number (are_free a a.first count) refl none
    (own_within a number own).0 (omega (arith, (own_within a number own).1)))

-- A free run doesn't contain a number that isn't free.
torn : (a : Numbers) (first count : ℕ) → IsFreeRun a first count → IsNoRun a first count → ⊥
torn a first count free none = let h : true ≡ false = sym (free none.0 none.1) ∙ none.2 in cc

found_lowest : (a : Numbers) (count first : ℕ) (o : Option ℕ) → 0 < count → run_in a count ≡ o
    → IsLowestRun a count first → o ≡ Some first
found_lowest a count first None some is lowest =
    absurd (torn a first count lowest.free (none_found a count first some is))
found_lowest a count first (Some q) some is lowest =
    let other = lowest_found a count q some is in
    elim (cases_eq q first) [
      | inl e ↦ rw e refl
      | inr ne ↦ elim (cases_lt q first) [
        | inl below ↦ absurd (torn a q count other.free (lowest.lowest q below))
        | inr above ↦ absurd (torn a first count lowest.free (other.lowest first (omega (arith, above, ne))))
      ]
    ]

found_none : (a : Numbers) (count : ℕ) (o : Option ℕ) → run_in a count ≡ o → ((first : ℕ) → IsNoRun a first count)
    → o ≡ None
found_none a count None is none = refl
found_none a count (Some q) is none = absurd (torn a q count (found_free a count q is) (none q))

pub lowest_law : LowestLaw
lowest_law a count some = record {
  found = λ first. (
    lowest_found a count first some,
    found_lowest a count first (run_in a count) some refl,
  );
  none = (
    λ none first. none_found a count first some none,
    found_none a count (run_in a count) refl,
  );
}

-- A run is taken.

count_without : (a : Numbers) (first count : ℕ) → IsFreeRun a first count
    → free_count (without_run a first count) + count ≡ free_count a
unfolding without_run
count_without a first zero free = omega arith
count_without a first (suc n) free =
    let one = free_count_taken (without_run a first n) (first + n) (next_free a first (suc n) n free (omega arith)) in
    let rest = count_without a first n (λ k lt. free k (omega (arith, lt))) in
    omega (arith, one, rest)

pub run_law : RunLaw
run_law a first count free = record {
  taken = λ k lt. is_free-without_run a first count k free lt;
  others = λ number out. is_free-without_other a first count number free out;
  owned = is_own-without_run a first count;
  counted = count_without a first count free;
}

-- The numbers of a run.

pub times_outside : (first count number : ℕ) → (number < first) ⊎ (first + count ≤ number)
    → times_in_hand (run_numbers first count) number ≡ 0
unfolding run_numbers
times_outside first zero number out = refl
times_outside first (suc n) number (inl below) =
    times_rest (run_numbers first n) (first + n) number (omega (arith, below))
    ∙ times_outside first n number (inl below)
times_outside first (suc n) number (inr above) =
    times_rest (run_numbers first n) (first + n) number (omega (arith, above))
    ∙ times_outside first n number (inr (omega (arith, above)))

pub times_inside : (first count number : ℕ) → first ≤ number → number < first + count
    → times_in_hand (run_numbers first count) number ≡ 1
unfolding run_numbers
times_inside first zero number low high = absurd (omega (arith, low, high))
times_inside first (suc n) number low high = elim (cases_eq number (first + n)) [
  | inl e ↦
      rw e
      (times_first (run_numbers first n) (first + n)
      ∙ ap (λ t. 1 + t) (times_outside first n (first + n) (inr (omega arith))))
  | inr ne ↦
      times_rest (run_numbers first n) (first + n) number ne ∙ times_inside first n number low (omega (arith, high, ne))
]

-- Owned blocks.

pub times_append : (xs ys : List ℕ) (number : ℕ)
    → times_in_hand (xs ++ ys) number ≡ times_in_hand xs number + times_in_hand ys number
times_append xs ys number = sum_by-append (λ (x : ℕ). cond (eqb x number) 1 0) xs ys

pub times_cons : (n : ℕ) (xs : List ℕ) (number : ℕ)
    → times_in_hand (n ∷ xs) number ≡ cond (eqb n number) 1 0 + times_in_hand xs number
times_cons n xs number = sum_by-cons (λ (x : ℕ). cond (eqb x number) 1 0) n xs

-- The moves of a run.

taken_once : (a : Numbers) (hand : List ℕ) (m : Memory) (first count : ℕ) → IsFreeRun a first count
    → EachOnce a hand m → EachOnce (without_run a first count) (run_numbers first count ++ hand) m
unfolding without_run run_numbers
taken_once a hand m first zero free once = once
taken_once a hand m first (suc n) free once =
    moves_keep_each_once.taken (without_run a first n) (run_numbers first n ++ hand) m (first + n)
    (next_free a first (suc n) n free (omega arith))
    (taken_once a hand m first n (λ k lt. free k (omega (arith, lt))) once)

same_hand : (first count : ℕ) (hand : List ℕ) (number : ℕ)
    → times_in_hand (run_numbers first (count + 1) ++ hand) number
    ≡ times_in_hand (run_numbers first count ++ (first + count) ∷ hand) number
unfolding run_numbers
same_hand first count hand number =
    let e : count + 1 ≡ suc count = omega arith in
    let n : ℕ = first + count in
    let rest : List ℕ = run_numbers first count in
    let left = times_cons n (rest ++ hand) number in
    let left_rest = times_append rest hand number in
    let right = times_append rest (n ∷ hand) number in
    let right_rest = times_cons n hand number in
    rw e (omega (arith, left, left_rest, right, right_rest))

popped_once : (a : Numbers) (hand : List ℕ) (m : Memory) (first count : ℕ)
    → EachOnce a (run_numbers first (count + 1) ++ hand) m
    → EachOnce a (run_numbers first count ++ (first + count) ∷ hand) m
popped_once a hand m first count once =
    moves_keep_each_once.order a (run_numbers first (count + 1) ++ hand)
    (run_numbers first count ++ (first + count) ∷ hand) m (same_hand first count hand) once

pub runs_keep_each_once : RunsKeepEachOnce
runs_keep_each_once = record {
  numbers = λ first count. record { inside = times_inside first count; outside = times_outside first count };
  taken = taken_once;
  popped = popped_once;
}
