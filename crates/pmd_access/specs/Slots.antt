-- The slots of a driver's ring, which occupies consecutive blocks of bus memory.
use Rattle.std.specs.Prelude.{ℕ, ◌+◌, ◌-◌, ◌*◌, ◌/◌, ◌<◌, ◌&&◌, Bool, nat_le, nat_lt, List, if◌then◌else◌}
use Rattle.std.specs.List.{range_with_len}

-- A position, wrapped at most once around a ring of `size` slots.
abbrev pub wrapped : ℕ → ℕ → ℕ
wrapped size at = if nat_lt at size then at else at - size

-- The bus address of a slot's descriptor in a ring that starts at block `ring`.
abbrev pub descriptor_in : ℕ → ℕ → ℕ
descriptor_in ring slot = 2048 * ring + 16 * slot

-- The number of blocks that a ring of `size` slots occupies. Each block contains 128 descriptors.
abbrev pub blocks_for : ℕ → ℕ
blocks_for size = (size + 127) / 128

-- The blocks of a ring, which have consecutive numbers.
abbrev pub ring_blocks : ℕ → ℕ → List ℕ
ring_blocks ring size = range_with_len ring (blocks_for size)

-- Whether a block belongs to the ring.
abbrev pub is_ring_block : ℕ → ℕ → ℕ → Bool
is_ring_block ring size block = nat_le ring block && nat_lt block (ring + blocks_for size)

-- The property holds for each block of the ring.
abbrev pub EachRingBlock : ℕ → ℕ → (ℕ → Type 0) → Type 0
EachRingBlock ring size P = (k : ℕ) → k < blocks_for size → P (ring + k)
