use Rattle.std.specs.Prelude.{ℕ, List, ◌++◌, take, drop}
use Rattle.std.specs.Int.{w64, to_le_bytes, from_le_bytes}

-- A descriptor's bytes 0 to 7 (`first_half`) or 8 to 15 (`second_half`) as a little-endian word, and the descriptor
-- that has these two halves (`of_halves`).
unfoldable pub first_half : List ℕ → ℕ
first_half descriptor = from_le_bytes w64 (take 8 descriptor)

unfoldable pub second_half : List ℕ → ℕ
second_half descriptor = from_le_bytes w64 (drop 8 descriptor)

unfoldable pub of_halves : ℕ → ℕ → List ℕ
of_halves first second = to_le_bytes w64 first ++ to_le_bytes w64 second
