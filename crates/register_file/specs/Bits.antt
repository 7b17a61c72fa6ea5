-- Bits of a word.
use Rattle.std.specs.Prelude.{ℕ, ◌+◌, ◌-◌, ◌/◌, ◌%◌, ◌^◌, ◌==◌, Bool, bit_and, bit_or, if◌then◌else◌}

-- Whether a bit of a word is 1.
abbrev pub has_bit : ℕ → ℕ → Bool
has_bit bit word = word / 2 ^ bit % 2 == 1

-- The word with a bit set, and with it cleared. Every other bit is unchanged.
abbrev pub bit_set : ℕ → ℕ → ℕ
bit_set bit word = if has_bit bit word then word else word + 2 ^ bit

abbrev pub bit_cleared : ℕ → ℕ → ℕ
bit_cleared bit word = if has_bit bit word then word - 2 ^ bit else word

-- `old` with the bits of `mask` taken from `new`.
abbrev pub merged : ℕ → ℕ → ℕ → ℕ
merged mask old new = bit_or (bit_and old (0xFFFFFFFF - mask)) (bit_and new mask)
