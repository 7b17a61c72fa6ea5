-- Lemmas: a start finds two runs of free blocks exactly if the arena has two such runs that share no block.
use Rattle.driver_laws.proofs.Prelude.{None, Numbers, Option, Some, arith, both_ways, cases_Bool, count_of, false, inl}
use Rattle.driver_laws.proofs.Prelude.{inr, is_free, left, refl, suc, true, zero, ℕ, ⊎_elim, ◌+◌, ◌-◌, ◌<◌, ◌≡◌, ◌≢◌}
use Rattle.driver_laws.proofs.Prelude.{◌≤◌, ◌⊎◌}
use Rattle.driver_laws.{proofs.Prelude.is_some, proofs.Prelude.true_from_ne_false, specs.Room.HasTwoRuns}
use Rattle.pmd_driver.proofs.NicDevice.DmaArena.{Owned.is_own-of_free, Owned.own_within, RunLaws.one_taken}
use Rattle.pmd_driver.proofs.NicDevice.DmaArena.{Runs.found_after}
use Rattle.pmd_driver.specs.NicDevice.DmaArena.Run.{IsFreeRun, are_free, lowest_run, run_from, run_in}
use Rattle.pmd_driver.specs.Runs.{run_after, second_run}

all_free : (a : Numbers) (first count : ℕ) → IsFreeRun a first count → are_free a first count ≡ true
all_free a first count free =
    true_from_ne_false (are_free a first count) (λ taken.
    let (k, below, is) = one_taken a first count (is_free a first) refl taken in both_ways _ is (free k below))

-- If a free run begins at `n` within the range searched, the search finds a run that begins no later than `n`.
by_run : (a : Numbers) (count number left n : ℕ) → number ≤ n → n < number + left → are_free a n count ≡ true
    → (m : ℕ) × (run_from a count number left ≡ Some m) × (m ≤ n)
unfolding run_from
by_run a count number zero n low high free = absurd (omega (arith, low, high))
by_run a count number (suc left) n low high free =
    ⊎_elim (λ (here : are_free a number count ≡ true). (number, rw here refl, low))
    (λ (taken : are_free a number count ≡ false).
    let ne : n ≢ number = λ same. both_ways _ taken (rw same at free) in
    let (m, is, early) = by_run a count (number + 1) left n (omega (arith, low, ne)) (omega (arith, high)) free in
    (m, simp taken is, early)) (cases_Bool (are_free a number count))

run_finds : (a : Numbers) (count from n : ℕ) → 0 < count → from ≤ n ⊎ (from ≡ a.first) → IsFreeRun a n count
    → (m : ℕ) × (lowest_run a count from ≡ Some m) × (m ≤ n)
run_finds a count from n some low free =
    let within = own_within a (n + 0) (is_own-of_free a (n + 0) (free 0 some)) in
    by_run a count from (a.first + count_of a - from) n (omega (arith, low, within.0)) (omega (arith, low, within.1))
    (all_free a n count free)

-- Lemmas: the search finds two runs.

among_low : (a : Numbers) (count number left n : ℕ) → run_from a count number left ≡ Some n → number ≤ n
unfolding run_from
among_low a count number zero n is = cc
among_low a count number (suc left) n is =
    ⊎_elim (λ free. let same : number ≡ n = (let e : Some number ≡ Some n = rw free at is in cc) in omega (arith, same))
    (λ taken. let later = among_low a count (number + 1) left n (rw taken at is) in omega (arith, later))
    (cases_Bool (are_free a number count))

found_runs : (a : Numbers) (count : ℕ) (one two : Option ℕ) → run_in a count ≡ one → run_after a count one ≡ two
    → is_some two ≡ true → HasTwoRuns a count
found_runs a count None two first second some = cc
found_runs a count (Some ring) None first second some = cc
found_runs a count (Some ring) (Some other) first second some = record {
  first = ring;
  second = other;
  one = found_after a count a.first ring first;
  two = found_after a count (ring + count) other second;
  apart = among_low a count (ring + count) (a.first + count_of a - (ring + count)) other second;
}

pub returns : Rattle.driver_laws.proofs.two_runs_are_found.Goals.returns
returns c a count some = (
  λ is. found_runs a count (run_in a count) (second_run a count) refl refl is,
  λ x.
      let (one, is, early) = run_finds a count a.first x.first some (inr refl) x.one in
      let apart = x.apart in
      let (two, then, late) = run_finds a count (one + count) x.second some (inl (omega (arith, early, apart))) x.two in
      rw is (rw then refl),
)
