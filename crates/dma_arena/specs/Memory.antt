use Rattle.std.specs.Prelude.{◌≡◌, ℕ, zero, suc, length, ◌+◌, ◌*◌, ◌/◌, ◌%◌, ◌<◌, ◌≤◌, ◌⊎◌, Bool, true, ◌&&◌, is_some, Option, Some, None, List, [], ◌∷◌, ◌++◌, take, drop, slice_index, slice_set, option_map, unwrap_or}
use Rattle.std.specs.Ordering.{nat_cmp}
use Rattle.std.specs.FinMap as map
use Rattle.dma_arena.specs.Block.{Block, IsBlock}

-- The memory that the device may use: a map from the number of each lent block to the block's bytes.
abbrev pub Memory : Type 0
Memory = map.FinMap nat_cmp (List ℕ)

-- Whether the block with this number is lent.
abbrev pub has_block : Memory → ℕ → Bool
has_block m number = is_some (map.get m number)

-- The block that is lent under this number.
abbrev pub block_at : Memory → ℕ → Option Block
block_at m number = option_map (λ bytes. record { number = number; bytes = bytes }) (map.get m number)

-- The byte at bus address `a`, which is byte `a mod 2048` of block `a / 2048`.
unfoldable pub byte_at : Memory → ℕ → ℕ
byte_at m a = slice_index (unwrap_or (map.get m (a / 2048)) []) (a % 2048)

-- Whether each of the `n` bytes starting at address `a` is in a lent block.
unfoldable pub is_lent : Memory → ℕ → ℕ → Bool
is_lent m a zero = true
is_lent m a (suc n) = has_block m (a / 2048) && is_lent m (a + 1) n

-- The `n` bytes starting at address `a`.
unfoldable pub read_at : Memory → ℕ → ℕ → List ℕ
read_at m a zero = []
read_at m a (suc n) = byte_at m a ∷ read_at m (a + 1) n

-- The memory after one byte of a block is written. A block that isn't lent stays absent.
abbrev pub with_byte : Memory → ℕ → ℕ → Option (List ℕ) → Memory
with_byte m a byte None = m
with_byte m a byte (Some bytes) = map.insert m (a / 2048) (slice_set bytes (a % 2048) byte)

-- The memory after one byte is written.
unfoldable pub set_byte : Memory → ℕ → ℕ → Memory
set_byte m a byte = with_byte m a byte (map.get m (a / 2048))

-- The memory after these bytes are written, starting at address `a`.
unfoldable pub write_at : Memory → ℕ → List ℕ → Memory
write_at m a [] = m
write_at m a (byte ∷ bytes) = write_at (set_byte m a byte) (a + 1) bytes

-- The bytes of a block, with these bytes in place of the bytes starting at index `at`.
unfoldable pub put_bytes : List ℕ → ℕ → List ℕ → List ℕ
put_bytes block at bytes = take at block ++ bytes ++ drop (at + length bytes) block

-- The `n` bytes of a block starting at index `at`.
unfoldable pub part : List ℕ → ℕ → ℕ → List ℕ
part block at n = take n (drop at block)

-- Each lent block is a valid block: it is 2,048 bytes long, and its number is below 65,536.
pub record IsWhole (m : Memory) : Type 0 where
  pub block : (number : ℕ) (bytes : List ℕ) → map.get m number ≡ Some bytes
      → IsBlock (record { number = number; bytes = bytes })

-- The same blocks are lent in both memories.
abbrev pub SameLent : Memory → Memory → Type 0
SameLent m n = (number : ℕ) → has_block m number ≡ has_block n number

-- The address `c` is outside the `n` bytes starting at `a`.
abbrev pub IsOutside : ℕ → ℕ → ℕ → Type 0
IsOutside c a n = (c < a) ⊎ (a + n ≤ c)

-- The `k` bytes starting at `c` and the `n` bytes starting at `a` share no byte.
abbrev pub AreApart : ℕ → ℕ → ℕ → ℕ → Type 0
AreApart c k a n = (c + k ≤ a) ⊎ (a + n ≤ c)

-- All `n` bytes starting at `a` are in the block.
abbrev pub LiesIn : ℕ → ℕ → ℕ → Type 0
LiesIn number a n = (2048 * number ≤ a) × (a + n ≤ 2048 * number + 2048)

-- None of the `n` bytes starting at `a` is in the block.
abbrev pub Avoids : ℕ → ℕ → ℕ → Type 0
Avoids number a n = (a + n ≤ 2048 * number) ⊎ (2048 * number + 2048 ≤ a)
