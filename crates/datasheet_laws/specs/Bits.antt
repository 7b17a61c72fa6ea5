-- Bits of registers, numbered as the datasheet numbers them.
use Rattle.std.specs.Prelude.{ℕ, ◌+◌, ◌-◌, ◌/◌, ◌%◌, ◌^◌}

-- A bit of a word.
abbrev pub bit : ℕ → ℕ → ℕ
bit n word = word / 2 ^ n % 2

-- The number in bits `high` to `low` of a word.
abbrev pub field : (high low word : ℕ) → ℕ
field high low word = word / 2 ^ low % 2 ^ (high + 1 - low)
