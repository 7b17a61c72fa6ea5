use Rattle.std.specs.Prelude.{◌≡◌, ℕ, ◌+◌, ◌-◌, ◌<◌, ◌≤◌, Bool, true, false, ◌&&◌, nat_le, nat_lt, List, length, replicate, slice_index_or, slice_set, count_by}
use Rattle.std.specs.List.{list_all}

-- An arena's block numbers, starting at `first`; `free` says for each number whether it is free.
pub record Numbers : Type 0 where
  pub first : ℕ
  pub free : List Bool

-- How many block numbers the arena has.
abbrev pub count_of : Numbers → ℕ
count_of a = length a.free

-- The number of free block numbers.
abbrev pub free_count : Numbers → ℕ
free_count a = count_by (λ free. free) a.free

-- Whether the arena owns the number.
abbrev pub is_own : Numbers → ℕ → Bool
is_own a number = nat_le a.first number && nat_lt number (a.first + length a.free)

-- Whether the number is free in the arena.
abbrev pub is_free : Numbers → ℕ → Bool
is_free a number = nat_le a.first number && slice_index_or a.free (number - a.first) false

-- Whether all of the arena's numbers are free.
abbrev pub are_all_free : Numbers → Bool
are_all_free a = list_all (λ free. free) a.free

-- The `count` numbers starting at `first`, all free.
abbrev pub all_free : ℕ → ℕ → Numbers
all_free first count = record { first = first; free = replicate count true }

-- The arena's numbers below a cut (`numbers_below`), or at and above it (`numbers_from`), all free.
abbrev pub numbers_below : Numbers → ℕ → Numbers
numbers_below a at = all_free a.first (at - a.first)

abbrev pub numbers_from : Numbers → ℕ → Numbers
numbers_from a at = all_free at (a.first + count_of a - at)

-- The same arena, except that this number is now free or in use.
abbrev pub with_free : Numbers → ℕ → Bool → Numbers
with_free a number free = record a { free = slice_set a.free (number - a.first) free }

-- An arena has at least one number, and all of its numbers are below 65,536.
pub record IsArena (a : Numbers) : Type 0 where
  pub some : 0 < length a.free
  pub small : a.first + length a.free ≤ 65536

-- No number is free.
abbrev pub NoneFree : Numbers → Type 0
NoneFree a = (number : ℕ) → is_free a number ≡ false

-- The arena has numbers below the cut, and numbers at or above it.
abbrev pub IsInside : Numbers → ℕ → Type 0
IsInside a at = (a.first < at) × (at < a.first + length a.free)
