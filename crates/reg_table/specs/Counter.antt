-- Counters.
use Rattle.std.specs.Prelude.{ℕ, ◌+◌, ◌==◌, if◌then◌else◌}

-- The counter's word plus one, or 0xFFFFFFFF if the word is already 0xFFFFFFFF.
abbrev pub bumped : ℕ → ℕ
bumped word = if word == 0xFFFFFFFF then word else word + 1
