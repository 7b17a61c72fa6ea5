-- The hash of a frame, bit by bit, by the registers of its key.
use Rattle.std.specs.Prelude.{ℕ, ◌≡◌, ◌<◌, ◌≤◌, ◌+◌, ◌-◌, ◌*◌, ◌/◌, ◌%◌, ◌==◌, Bool, ◌&&◌, List, length, slice_index, count_by}
use Rattle.rss_hash.specs.Choice.{hashed_part}
use Rattle.rss_hash.specs.Flow.{flow_of}
use Rattle.datasheet_laws.specs.NumberPrelude.{HasShape, Registers, has_bit, range_with_len, rss_hash, rss_type}
use Rattle.datasheet_laws.specs.ByAddress.{holds}

-- Bit k of the key: byte k / 8 of it is byte k / 8 mod 4, counted from the lowest, of RSSRK[k / 32], at 0x0EB80 + 4(k /
-- 32). Bit 0 is the most significant of the first byte.
abbrev pub key_bit : Registers → (k : ℕ) → Bool
key_bit r k = holds r (0x0EB80 + 4 * (k / 32)) (8 * (k / 8 % 4) + (7 - k % 8))

-- Bit k of the hash's input: bit 0 is the most significant of the first byte.
abbrev pub input_bit : List ℕ → (k : ℕ) → Bool
input_bit input k = has_bit (7 - k % 8) (slice_index input (k / 8))

-- Bit 31 - j of a hash is 1 if, for an odd number of k, bit k of the input and bit k + j of the key are both 1.
abbrev pub HashIsOfTheKey : Type 0
HashIsOfTheKey =
    (r : Registers) → HasShape r → (frame input : List ℕ) →
    hashed_part (rss_type r frame) (flow_of frame).input ≡ input → length input ≤ 36 → (j : ℕ) → j < 32 →
    has_bit (31 - j) (rss_hash r frame)
    ≡ (count_by (λ k. input_bit input k && key_bit r (k + j)) (range_with_len 0 (8 * length input)) % 2 == 1)
