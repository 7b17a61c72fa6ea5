-- Bits of a word, numbered from the lowest, bit 0.
use Rattle.std.specs.Prelude.{ℕ, ◌+◌, ◌-◌, ◌/◌, ◌%◌, ◌^◌, Bool, ◌==◌}

-- Whether a bit of the word is 1.
abbrev pub has_bit : ℕ → ℕ → Bool
has_bit bit word = word / 2 ^ bit % 2 == 1

-- The value of bits `high` to `low` of the word.
abbrev pub field : ℕ → ℕ → ℕ → ℕ
field high low word = word / 2 ^ low % 2 ^ (high + 1 - low)
