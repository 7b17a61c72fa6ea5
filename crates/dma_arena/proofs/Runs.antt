-- Lemmas about finding and taking runs of free blocks.
use Rattle.std.proofs.Common.{◌≡◌, ◌≢◌, ℕ, zero, suc, ◌+◌, ◌-◌, ◌<◌, ◌≤◌, ◌&&◌, Bool, true, false, inl, inr, Some, None, refl, sym, ◌∙◌, arith}
use Rattle.std.proofs.lemmas.Bool.{and_parts, cases_lt, cases_eq}
use Rattle.dma_arena.specs.Numbers.{Numbers, count_of, is_own, is_free, with_free, IsArena}
use Rattle.dma_arena.specs.Run.{are_free, run_from, lowest_run, run_in, without_run, IsFreeRun}
use Rattle.dma_arena.proofs.Arenas.{is_own-with_free, is_free-with_free_same, is_free-with_free_other}
use Rattle.dma_arena.proofs.Owned.{own_within, own_of_within, is_own-of_free}

-- The search, step by step.

pub are_free-none : (a : Numbers) (first n : ℕ) → n ≡ 0 → are_free a first n ≡ true
unfolding are_free
are_free-none a first zero none = refl
are_free-none a first (suc n) none = absurd (omega arith)

pub are_free-step : (a : Numbers) (first next n m : ℕ) → next ≡ first + 1 → n ≡ m + 1
    → are_free a first n ≡ (is_free a first && are_free a next m)
unfolding are_free
are_free-step a first next zero m is more = absurd (omega arith)
are_free-step a first next (suc n) m is more = let e : n ≡ m = omega arith in rw (is, e) refl

pub run_from-none : (a : Numbers) (count number left : ℕ) → left ≡ 0 → run_from a count number left ≡ None
unfolding run_from
run_from-none a count number zero none = refl
run_from-none a count number (suc left) none = absurd (omega arith)

pub run_from-here : (a : Numbers) (count number left : ℕ) → 0 < left → are_free a number count ≡ true
    → run_from a count number left ≡ Some number
unfolding run_from
run_from-here a count number zero some free = absurd (omega arith)
run_from-here a count number (suc left) some free = rw free refl

pub run_from-next : (a : Numbers) (count number left rest : ℕ) → left ≡ rest + 1 → are_free a number count ≡ false
    → run_from a count number left ≡ run_from a count (number + 1) rest
unfolding run_from
run_from-next a count number zero rest next taken = absurd (omega arith)
run_from-next a count number (suc left) rest next taken = let e : left ≡ rest = omega arith in rw (taken, e) refl

-- If a number isn't below the first and doesn't belong to the arena, it is past the arena's end.
pub past_end : (a : Numbers) (number : ℕ) → a.first ≤ number → is_own a number ≡ false
    → a.first + count_of a - number ≡ 0
past_end a number low foreign = elim (cases_lt number (a.first + count_of a)) [
  | inl below ↦
      let own : is_own a number ≡ true = own_of_within a number low below in
      let h : true ≡ false = sym own ∙ foreign in
      cc
  | inr above ↦ omega (arith, above)
]

-- What the search finds.

pub each_free : (a : Numbers) (first count : ℕ) → are_free a first count ≡ true → IsFreeRun a first count
unfolding are_free
each_free a first zero free k lt = absurd (omega arith)
each_free a first (suc n) free zero lt = let e : first + 0 ≡ first = omega arith in
    rw e (and_parts (is_free a first) (are_free a (first + 1) n) free).0
each_free a first (suc n) free (suc k) lt =
    let e : first + suc k ≡ first + 1 + k = omega arith in
    let rest = (and_parts (is_free a first) (are_free a (first + 1) n) free).1 in
    rw e (each_free a (first + 1) n rest k (omega (arith, lt)))

-- A run of free numbers is within the arena.
pub run_within : (a : Numbers) (count first : ℕ) → IsArena a → is_own a first ≡ true → are_free a first count ≡ true
    → first + count ≤ 65536
run_within a zero first arena own free = let within = own_within a first own in omega (arith, within.1, arena.small)
run_within a (suc n) first arena own free =
    let last = is_own-of_free a (first + n) (each_free a first (suc n) free n (omega arith)) in
    let within = own_within a (first + n) last in
    omega (arith, within.1, arena.small)

found_from : (a : Numbers) (count number left first : ℕ) (free : Bool) → are_free a number count ≡ free
    → run_from a count number left ≡ Some first → are_free a first count ≡ true
unfolding run_from
found_from a count number zero first free is found = cc
found_from a count number (suc left) first true is found =
    let here : Some number ≡ Some first = rw is at found in
    let e : number ≡ first = cc in
    rw (← e) is
found_from a count number (suc left) first false is found =
    let rest : run_from a count (number + 1) left ≡ Some first = rw is at found in
    found_from a count (number + 1) left first (are_free a (number + 1) count) refl rest

-- The run that is found is free.

pub found_after : (a : Numbers) (count from first : ℕ) → lowest_run a count from ≡ Some first → IsFreeRun a first count
found_after a count from first found =
    each_free a first count
    (found_from a count from (a.first + count_of a - from) first (are_free a from count) refl found)

pub found_free : (a : Numbers) (count first : ℕ) → run_in a count ≡ Some first → IsFreeRun a first count
found_free a count first found = found_after a count a.first first found

-- A run is taken.

pub is_own-without_run : (a : Numbers) (first count number : ℕ)
    → is_own (without_run a first count) number ≡ is_own a number
unfolding without_run
is_own-without_run a first zero number = refl
is_own-without_run a first (suc n) number =
    is_own-with_free (without_run a first n) (first + n) false number ∙ is_own-without_run a first n number

-- The arena owns the numbers of a free run.
own_run : (a : Numbers) (first count n : ℕ) → IsFreeRun a first count → n < count
    → is_own (without_run a first n) (first + n) ≡ true
own_run a first count n free lt = is_own-without_run a first n (first + n) ∙ is_own-of_free a (first + n) (free n lt)

-- A number outside the run is unchanged.
pub is_free-without_other : (a : Numbers) (first count number : ℕ) → IsFreeRun a first count
    → ((k : ℕ) → k < count → number ≢ first + k)
    → is_free (without_run a first count) number ≡ is_free a number
unfolding without_run
is_free-without_other a first zero number free out = refl
is_free-without_other a first (suc n) number free out =
    is_free-with_free_other (without_run a first n) (first + n) false number
    (own_run a first (suc n) n free (omega arith)) (out n (omega arith))
    ∙ is_free-without_other a first n number (λ k lt. free k (omega (arith, lt))) (λ k lt. out k (omega (arith, lt)))

-- The run's numbers stop being free.
pub is_free-without_run : (a : Numbers) (first count k : ℕ) → IsFreeRun a first count → k < count
    → is_free (without_run a first count) (first + k) ≡ false
unfolding without_run
is_free-without_run a first zero k free lt = absurd (omega arith)
is_free-without_run a first (suc n) k free lt = elim (cases_eq k n) [
  | inl e ↦
      let own = own_run a first (suc n) n free (omega arith) in
      rw e (is_free-with_free_same (without_run a first n) (first + n) false own)
  | inr ne ↦
      let other : first + k ≢ first + n = λ e. ne (omega (arith, e)) in
      is_free-with_free_other (without_run a first n) (first + n) false (first + k)
      (own_run a first (suc n) n free (omega arith)) other
      ∙ is_free-without_run a first n k (λ j less. free j (omega (arith, less))) (omega (arith, lt, ne))
]

-- After some numbers of a run are taken, the next one is still free.
pub next_free : (a : Numbers) (first count n : ℕ) → IsFreeRun a first count → n < count
    → is_free (without_run a first n) (first + n) ≡ true
next_free a first count n free lt =
    is_free-without_other a first n (first + n) (λ k less. free k (omega (arith, less, lt)))
    (λ k less. omega (arith, less)) ∙ free n lt

pub without_run-none : (a : Numbers) (first : ℕ) → a ≡ without_run a first 0
unfolding without_run
without_run-none a first = refl

pub without_run-more : (a : Numbers) (first n : ℕ)
    → with_free (without_run a first n) (first + n) false ≡ without_run a first (n + 1)
unfolding without_run
without_run-more a first n = let e : n + 1 ≡ suc n = omega arith in rw e refl
