-- Single-bit masks.
use Rattle.std.specs.Prelude.{◌≡◌, ℕ, zero, suc, ◌+◌, ◌-◌, ◌/◌, ◌%◌, ◌^◌, ◌==◌, Bool, if◌then◌else◌}

-- The bit length of a number, at most `most`: its highest 1 bit, counted from 1; 0 for the number 0.
abbrev pub length_in : (most number : ℕ) → ℕ
length_in zero number = zero
length_in (suc most) zero = zero
length_in (suc most) (suc number) = suc (length_in most (suc number / 2))

-- The mask has exactly one 1 bit, below bit 32.
abbrev pub IsSingle : ℕ → Type 0
IsSingle mask = mask ≡ 2 ^ (length_in 32 mask - 1)

-- Whether the single bit of `mask` is 1 in the word.
abbrev pub has_flag : (mask word : ℕ) → Bool
has_flag mask word = word / mask % 2 == 1

-- The word with the single bit of `mask` set (`with_flag`) or cleared (`without_flag`), and every other bit unchanged.
abbrev pub with_flag : (mask word : ℕ) → ℕ
with_flag mask word = if has_flag mask word then word else word + mask

abbrev pub without_flag : (mask word : ℕ) → ℕ
without_flag mask word = if has_flag mask word then word - mask else word
