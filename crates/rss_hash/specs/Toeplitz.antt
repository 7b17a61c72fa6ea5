-- The Toeplitz hash and its laws.
use Rattle.std.specs.Prelude.{◌≡◌, ℕ, ◌+◌, ◌-◌, ◌%◌, ◌<◌, ◌==◌, count_by, List, ◌++◌, length, map, replicate, fold, zip, bit_xor}
use Rattle.std.specs.Int.{bit_at}
use Rattle.rss_hash.specs.Bits.{bit_of, set_bits, window}

-- The exclusive or of the numbers.
abbrev pub xor_of : List ℕ → ℕ
xor_of numbers = fold bit_xor 0 numbers

-- The exclusive or, over the input bits `k` that are 1, of the key's 32-bit windows at bit `k`.
unfoldable pub toeplitz_hash : List ℕ → List ℕ → ℕ
toeplitz_hash key input = xor_of (map (λ k. window key k) (set_bits input))

-- The exclusive or of two byte strings, byte by byte.
abbrev pub xor_bytes : List ℕ → List ℕ → List ℕ
xor_bytes a b = map (λ p. bit_xor p.0 p.1) (zip a b)

-- Bit `j` of the hash, counted from the hash's highest bit, is a parity. It is the parity of the number of input bits
-- `k` that are 1 and for which key bit `k + j` is 1.
abbrev pub HasParityBits : List ℕ → (List ℕ → ℕ) → Type 0
HasParityBits key hash =
    (input : List ℕ) (j : ℕ) → j < 32
    → bit_at (hash input) (31 - j) ≡ count_by (λ k. bit_of key (k + j) == 1) (set_bits input) % 2

-- The hash of the exclusive or of two inputs of the same length is the exclusive or of their hashes.
abbrev pub IsLinear : (List ℕ → ℕ) → Type 0
IsLinear hash = (a b : List ℕ) → length a ≡ length b → hash (xor_bytes a b) ≡ bit_xor (hash a) (hash b)

-- Zero bytes at an input's end don't change the hash.
abbrev pub IgnoresTrailingZeros : (List ℕ → ℕ) → Type 0
IgnoresTrailingZeros hash = (input : List ℕ) (count : ℕ) → hash (input ++ replicate count 0) ≡ hash input
