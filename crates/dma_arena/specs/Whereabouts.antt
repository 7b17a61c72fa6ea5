use Rattle.std.specs.Prelude.{◌≡◌, ℕ, ◌+◌, ◌<◌, ◌≤◌, ◌==◌, ◌⊎◌, true, false, List, [], ◌∷◌, ◌++◌, count_by, if◌then◌else◌}
use Rattle.std.specs.FinMap as map
use Rattle.dma_arena.specs.Memory.{Memory, has_block}
use Rattle.dma_arena.specs.Numbers.{Numbers, is_own, is_free, are_all_free, all_free, with_free, numbers_below, numbers_from, IsInside}
use Rattle.dma_arena.specs.Run.{run_numbers, without_run, IsFreeRun}

-- How many of the owned blocks have this number.
abbrev pub times_in_hand : List ℕ → ℕ → ℕ
times_in_hand hand number = count_by (λ held. held == number) hand

-- In how many places the block with this number is: free in the arena, owned, or lent.
abbrev pub places_of : Numbers → List ℕ → Memory → ℕ → ℕ
places_of a hand m number =
    (if is_free a number then 1 else 0) + times_in_hand hand number + (if has_block m number then 1 else 0)

-- Each block of the arena is in exactly one place: free, owned or lent.
abbrev pub EachOnce : Numbers → List ℕ → Memory → Type 0
EachOnce a hand m = (number : ℕ) → is_own a number ≡ true → places_of a hand m number ≡ 1

-- When a block moves between places as listed here, each block of the arena stays in exactly one place.
pub record MovesKeepEachOnce : Type 0 where
  -- An arena is created, and none of its numbers is owned or lent.
  pub made : (first count : ℕ) → EachOnce (all_free first count) [] map.empty
  pub taken : (a : Numbers) (hand : List ℕ) (m : Memory) (number : ℕ) → is_free a number ≡ true → EachOnce a hand m
      → EachOnce (with_free a number false) (number ∷ hand) m
  pub given : (a : Numbers) (hand : List ℕ) (m : Memory) (number : ℕ) → is_own a number ≡ true
      → EachOnce a (number ∷ hand) m → EachOnce (with_free a number true) hand m
  pub lent : (a : Numbers) (hand : List ℕ) (m : Memory) (number : ℕ) (bytes : List ℕ) → has_block m number ≡ false
      → EachOnce a (number ∷ hand) m → EachOnce a hand (map.insert m number bytes)
  pub back : (a : Numbers) (hand : List ℕ) (m : Memory) (number : ℕ) → has_block m number ≡ true → EachOnce a hand m
      → EachOnce a (number ∷ hand) (map.remove m number)
  -- A block is received from an arena that shares no number with this one, and returned to its own arena.
  pub foreign : (a : Numbers) (hand : List ℕ) (m : Memory) (number : ℕ) → is_own a number ≡ false → EachOnce a hand m
      → EachOnce a (number ∷ hand) m
  pub home : (a home : Numbers) (hand : List ℕ) (m : Memory) (number : ℕ) → is_own a number ≡ false
      → is_own home number ≡ true → EachOnce a (number ∷ hand) m → EachOnce home (number ∷ hand) m
      → (is_free home number ≡ false) × EachOnce a hand m × EachOnce (with_free home number true) hand m
  -- An arena with all blocks free is split in two.
  pub split : (a : Numbers) (hand : List ℕ) (m : Memory) (at : ℕ) → are_all_free a ≡ true → IsInside a at
      → EachOnce a hand m → EachOnce (numbers_below a at) hand m × EachOnce (numbers_from a at) hand m
  -- The order of the owned blocks doesn't matter.
  pub order : (a : Numbers) (hand other : List ℕ) (m : Memory)
      → ((number : ℕ) → times_in_hand hand number ≡ times_in_hand other number) → EachOnce a hand m → EachOnce a other m
  -- An owned block is neither free nor lent, so it can be given back and lent.
  pub welcome : (a : Numbers) (hand : List ℕ) (m : Memory) (number : ℕ) → is_own a number ≡ true
      → EachOnce a (number ∷ hand) m → (is_free a number ≡ false) × (has_block m number ≡ false)

-- Each number of a run occurs in the run exactly once; no other number occurs in it.
pub record IsEachNumber (first count : ℕ) : Type 0 where
  pub inside : (number : ℕ) → first ≤ number → number < first + count
      → times_in_hand (run_numbers first count) number ≡ 1
  pub outside : (number : ℕ) → (number < first) ⊎ (first + count ≤ number)
      → times_in_hand (run_numbers first count) number ≡ 0

-- When a run is taken or loses a block, each block of the arena stays in exactly one place.
pub record RunsKeepEachOnce : Type 0 where
  pub numbers : (first count : ℕ) → IsEachNumber first count
  pub taken : (a : Numbers) (hand : List ℕ) (m : Memory) (first count : ℕ) → IsFreeRun a first count
      → EachOnce a hand m → EachOnce (without_run a first count) (run_numbers first count ++ hand) m
  -- The highest block leaves the run and becomes a single owned block.
  pub popped : (a : Numbers) (hand : List ℕ) (m : Memory) (first count : ℕ)
      → EachOnce a (run_numbers first (count + 1) ++ hand) m
      → EachOnce a (run_numbers first count ++ (first + count) ∷ hand) m
