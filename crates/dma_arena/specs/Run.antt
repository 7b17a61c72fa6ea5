use Rattle.std.specs.Prelude.{◌≡◌, ℕ, zero, suc, ◌+◌, ◌-◌, ◌<◌, ◌≤◌, Bool, true, false, ◌&&◌, Option, Some, None, List, [], ◌∷◌, length, slice_index_or, if◌then◌else◌}
use Rattle.dma_arena.specs.Block.{Block, zero_block}
use Rattle.dma_arena.specs.Numbers.{Numbers, count_of, is_free, with_free}

-- Owned blocks with consecutive numbers, all filled with zeros: the first number, and the number of blocks.
pub record BlockRun : Type 0 where
  pub first : ℕ
  pub count : ℕ

-- Whether each of the `count` numbers starting at `first` is free.
unfoldable pub are_free : Numbers → ℕ → ℕ → Bool
are_free a first zero = true
are_free a first (suc n) = is_free a first && are_free a (first + 1) n

-- The first of the `left` numbers starting at `number` that begins a run of `count` free numbers.
unfoldable pub run_from : Numbers → ℕ → ℕ → ℕ → Option ℕ
run_from a count number zero = None
run_from a count number (suc left) =
    if are_free a number count then Some number else run_from a count (number + 1) left

-- The arena's lowest number, `from` or higher, that begins a run of `count` free blocks.
abbrev pub lowest_run : Numbers → ℕ → ℕ → Option ℕ
lowest_run a count from = run_from a count from (a.first + count_of a - from)

-- The arena's lowest number that begins a run of `count` free blocks.
abbrev pub run_in : Numbers → ℕ → Option ℕ
run_in a count = lowest_run a count a.first

-- The arena after the `count` numbers starting at `first` are taken.
unfoldable pub without_run : Numbers → ℕ → ℕ → Numbers
without_run a first zero = a
without_run a first (suc n) = with_free (without_run a first n) (first + n) false

-- A run's numbers, from the highest to the lowest.
unfoldable pub run_numbers : ℕ → ℕ → List ℕ
run_numbers first zero = []
run_numbers first (suc n) = (first + n) ∷ run_numbers first n

-- Each of the `count` numbers starting at `first` is free.
abbrev pub IsFreeRun : Numbers → ℕ → ℕ → Type 0
IsFreeRun a first count = (k : ℕ) → k < count → is_free a (first + k) ≡ true

-- One of the `count` numbers starting at `first` isn't free.
abbrev pub IsNoRun : Numbers → ℕ → ℕ → Type 0
IsNoRun a first count = (k : ℕ) × (k < count) × (is_free a (first + k) ≡ false)

-- The run that begins at `first` is free, and no run that begins at a lower number is free.
pub record IsLowestRun (a : Numbers) (count first : ℕ) : Type 0 where
  pub free : IsFreeRun a first count
  pub lowest : (number : ℕ) → number < first → IsNoRun a number count

-- The slots of a run: each of its blocks is in its slot, filled with zeros, and the other slots are empty.
pub record IsRunOf (first count : ℕ) (slots : List (Option Block)) : Type 0 where
  pub size : length slots ≡ 8
  pub few : count ≤ 8
  pub blocks : (k : ℕ) → k < count → slice_index_or slots k None ≡ Some (zero_block (first + k))
  pub rest : (k : ℕ) → count ≤ k → slice_index_or slots k None ≡ None
