-- Copies of blocks, and blocks that leave an arena to be lent.
use Rattle.std.specs.Prelude.{ℕ, ◌≡◌, ◌<◌, true, false, List, [], ◌∷◌, length, ⊤, Option, Some, None}
use Rattle.std.specs.FinMap as map
use Rattle.rx_ring.specs.DmaArena.Memory.{Memory, has_block}
use Rattle.rx_ring.specs.DmaArena.Numbers.{Numbers, is_own, is_free}

-- The memory from which these blocks were copied.
abbrev pub memory_of : List (ℕ × List ℕ) → Memory
memory_of copies = map.from_entries copies

-- The copies are in ascending order of block number.
abbrev pub AreRising : List (ℕ × List ℕ) → Type 0
AreRising [] = ⊤
AreRising (copy ∷ copies) =
    ((number : ℕ) → has_block (memory_of copies) number ≡ true → copy.0 < number) × AreRising copies

-- Each block of the memory is free in the arena.
abbrev pub AreFree : Numbers → Memory → Type 0
AreFree a m = (number : ℕ) → has_block m number ≡ true → is_free a number ≡ true

-- Each block of the memory belongs to the arena but isn't free there.
abbrev pub AreAway : Numbers → Memory → Type 0
AreAway a m = (number : ℕ) → has_block m number ≡ true → (is_own a number ≡ true) × (is_free a number ≡ false)

-- Each block of the second memory is in the first.
abbrev pub AreAmong : Memory → Memory → Type 0
AreAmong all some = (number : ℕ) → has_block some number ≡ true → has_block all number ≡ true

-- Each block of the memory has a number below `end`.
abbrev pub AreBelow : Memory → ℕ → Type 0
AreBelow m end = (number : ℕ) → has_block m number ≡ true → number < end

-- `block` is the lowest block of the memory that isn't free in the arena.
pub record IsLowestTaken (a : Numbers) (m : Memory) (block : ℕ) : Type 0 where
  pub lent : has_block m block ≡ true
  pub taken : is_free a block ≡ false
  pub lowest : (number : ℕ) → number < block → has_block m number ≡ true → is_free a number ≡ true

-- The result is the number of that block, or `None` if every block of the memory is free.
abbrev pub TellsTaken : Numbers → Memory → Option ℕ → Type 0
TellsTaken a m None = AreFree a m
TellsTaken a m (Some block) = IsLowestTaken a m block

-- The blocks of the memory were free and have left the arena; the other blocks are unchanged.
pub record HaveLeft (before after : Numbers) (m : Memory) : Type 0 where
  pub first : after.first ≡ before.first
  pub count : length after.free ≡ length before.free
  pub lent : (number : ℕ) → has_block m number ≡ true → (is_free before number ≡ true) × (is_free after number ≡ false)
  pub others : (number : ℕ) → has_block m number ≡ false → is_free after number ≡ is_free before number

-- If removing the first memory's blocks from some arena yields the first arena, then removing the second memory's
-- blocks from that same arena yields the second arena.
abbrev pub StillLeft : Numbers → Memory → Numbers → Memory → Type 0
StillLeft a m b n = (before : Numbers) → HaveLeft before a m → HaveLeft before b n
