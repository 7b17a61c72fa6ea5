use Rattle.std.specs.Prelude.{ℕ, ◌≡◌, ◌*◌, ◌<◌, ◌≤◌, List, length, replicate, slice_index}

-- A block of packet memory: its number and its bytes.
pub record Block : Type 0 where
  pub number : ℕ
  pub bytes : List ℕ

-- A block is 2,048 bytes long, and its number is below 65,536.
pub record IsBlock (block : Block) : Type 0 where
  pub size : length block.bytes ≡ 2048
  pub small : block.number < 65536

-- The bus address of the block's first byte.
abbrev pub bus_of : Block → ℕ
bus_of block = block.number * 2048

-- The block with this number, filled with zeros.
abbrev pub zero_block : ℕ → Block
zero_block number = record { number = number; bytes = replicate 2048 0 }

-- All bytes of the block at and after this index are 0.
abbrev pub IsZeroFrom : ℕ → List ℕ → Type 0
IsZeroFrom from bytes = (k : ℕ) → from ≤ k → k < 2048 → slice_index bytes k ≡ 0
