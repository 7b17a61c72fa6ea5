-- At which block numbers an arena can be split, and which blocks each part then has.
use Rattle.std.specs.Prelude.{◌≡◌, ◌↔◌, ◌+◌, ◌<◌, ◌&&◌, ℕ, nat_le, nat_lt}
use Rattle.dma_arena.specs.Numbers.{all_free, is_own, numbers_below, numbers_from, IsInside}

-- An arena of `count` blocks can be split at each of its block numbers except the first, and at no other number. Blocks
-- with lower numbers are then in the first part, and the block with this number is the first block in the second part.
pub record IsSplit (first count at : ℕ) : Type 0 where
  pub inside : IsInside (all_free first count) at ↔ ((first < at) × (at < first + count))
  pub below : first < at → (n : ℕ) →
      is_own (numbers_below (all_free first count) at) n ≡ (nat_le first n && nat_lt n at)
  pub above : at < first + count → (n : ℕ) →
      is_own (numbers_from (all_free first count) at) n ≡ (nat_le at n && nat_lt n (first + count))

abbrev pub ArenasAreSplit : Type 0
ArenasAreSplit = (first count at : ℕ) → IsSplit first count at
