-- The bits of a byte string by number. Bit 0 is the most significant bit of the first byte.
use Rattle.std.specs.Prelude.{ℕ, ◌*◌, ◌-◌, ◌/◌, ◌%◌, ◌==◌, List, length, map, filter, slice_index}
use Rattle.std.specs.Int.{bit_at}
use Rattle.std.specs.Int.Digits.{number_from_digits}
use Rattle.std.specs.List.{range_with_len}

-- Bit `k`: 0 or 1.
abbrev pub bit_of : List ℕ → ℕ → ℕ
bit_of bytes k = bit_at (slice_index bytes (k / 8)) (7 - k % 8)

-- The numbers of the bits that are 1.
abbrev pub set_bits : List ℕ → List ℕ
set_bits bytes = filter (λ k. bit_of bytes k == 1) (range_with_len 0 (8 * length bytes))

-- The numbers of the bits that are 1 in a half byte with value `v`. Bit 0 is the most significant of its four bits.
abbrev pub half_bits : (v : ℕ) → List ℕ
half_bits v = filter (λ j. bit_at v (3 - j) == 1) (range_with_len 0 4)

-- The `count` bits starting at bit `k`, read as a binary number.
unfoldable pub bits_from : List ℕ → ℕ → ℕ → ℕ
bits_from bytes k count = number_from_digits 2 (map (bit_of bytes) (range_with_len k count))

-- The window of a key at bit `k`: the 32 bits starting there.
abbrev pub window : (key : List ℕ) (k : ℕ) → ℕ
window key k = bits_from key k 32
