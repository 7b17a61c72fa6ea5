-- Tables of the numbers that each half byte of an input adds to the input's hash.
use Rattle.std.specs.Prelude.{ℕ, ◌≡◌, ◌+◌, ◌*◌, ◌/◌, ◌%◌, ◌==◌, ◌<◌, ◌≤◌, ◌⊎◌, List, [], length, map, slice_index, slice_index_or, bit_xor}
use Rattle.std.specs.Prelude.{if◌then◌else◌}
use Rattle.std.specs.Int.{bit_at}
use Rattle.rss_hash.specs.Bits.{half_bits, window}
use Rattle.rss_hash.specs.Registers.{bytes_of_registers}
use Rattle.rss_hash.specs.Toeplitz.{xor_of}

-- The number if the bit is 1, otherwise 0.
abbrev pub where_one : (bit number : ℕ) → ℕ
where_one bit number = if bit == 1 then number else 0

-- The exclusive or of a subset of four numbers: the numbers at which bits 3 to 0 of `v` are 1.
abbrev pub joined : (a b c d v : ℕ) → ℕ
joined a b c d v =
    bit_xor (bit_xor (bit_xor (where_one (bit_at v 3) a) (where_one (bit_at v 2) b)) (where_one (bit_at v 1) c))
    (where_one (bit_at v 0) d)

-- The number that half byte `k` of an input adds to the hash if the half byte's value is `v`: the exclusive or, over
-- the bits `j` of `v` that are 1, of the key's 32-bit windows at bits `4k + j`.
unfoldable pub half_share : (key : List ℕ) (k v : ℕ) → ℕ
half_share key k v = xor_of (map (λ j. window key (4 * k + j)) (half_bits v))

-- Entry `v` in the table of half byte `k` is the number that the half byte adds if its value is `v`. The words are the
-- key's ten registers.
abbrev pub HoldsItsShare : (tables : List (List ℕ)) (words : List ℕ) (k v : ℕ) → Type 0
HoldsItsShare tables words k v = slice_index (slice_index_or tables k []) v ≡ half_share (bytes_of_registers words) k v

-- The tables contain the windows of the key. There is one table for each half byte of a 36-byte input, with an entry
-- for each value of a half byte.
pub record AreItsWindows (tables : List (List ℕ)) (words : List ℕ) : Type 0 where
  pub whole : length tables ≡ 72
  pub entry : (k v : ℕ) → k < 72 → v < 16 → HoldsItsShare tables words k v

-- Half byte `n` uses no bit of the key's word `index`. The half byte's windows cover 35 bits starting at bit `4n`; they
-- end before the word or begin after the word.
abbrev pub IsBeyond : (index n : ℕ) → Type 0
IsBeyond index n = (n + 8 < 8 * index) ⊎ (8 * index + 8 ≤ n)

-- All half bytes have tables. The tables of the half bytes that use no bit of this word contain the key's windows.
pub record FitBeyond (tables : List (List ℕ)) (words : List ℕ) (index : ℕ) : Type 0 where
  pub whole : length tables ≡ 72
  pub entry : (k v : ℕ) → k < 72 → v < 16 → IsBeyond index k → HoldsItsShare tables words k v

-- The number that the high half (`high_share`) or the low half (`low_share`) of byte `i` adds, according to the tables.
abbrev pub high_share : (tables : List (List ℕ)) (i byte : ℕ) → ℕ
high_share tables i byte = slice_index (slice_index_or tables (2 * i) []) (byte / 16)

abbrev pub low_share : (tables : List (List ℕ)) (i byte : ℕ) → ℕ
low_share tables i byte = slice_index (slice_index_or tables (2 * i + 1) []) (byte % 16)
