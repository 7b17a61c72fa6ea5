-- Lemmas about the window that starts at the next bit.
use Rattle.std.proofs.Common.{◌≡◌, ℕ, zero, suc, ◌+◌, ◌*◌, ◌%◌, ◌^◌, ◌<◌, List, refl, ap, arith}
use Rattle.std.proofs.lemmas.Nat.{pow-add}
use Rattle.std.proofs.lemmas.Nat.Bits.{bit_at-lt}
use Rattle.rss_hash.specs.Bits.{bit_of, bits_from}
use Rattle.rss_hash.proofs.Windows.{bits_from_more}

pub no_bits : (bytes : List ℕ) (k : ℕ) → bits_from bytes k 0 ≡ 0
unfolding bits_from
no_bits bytes k = refl

pub bits_from-lt : (bytes : List ℕ) (k n : ℕ) → bits_from bytes k n < 2 ^ n
bits_from-lt bytes k zero = omega (arith, no_bits bytes k)
bits_from-lt bytes k (suc n) =
    let next : suc n ≡ n + 1 = omega arith in
    let last = bits_from_more bytes k n in
    let small : bit_of bytes (k + n) < 2 = bit_at-lt _ _ in
    rw next (omega (arith, last, small, bits_from-lt bytes k n, pow-add 2 n 1))

doubled : (bit n : ℕ) → bit < 2 → bit * 2 ^ (n + 1) ≡ 2 * (bit * 2 ^ n)
doubled zero n small = omega arith
doubled (suc zero) n small = omega (arith, pow-add 2 n 1)
doubled (suc (suc bit)) n small = absurd (omega arith)

-- The first bit of a window is the window's highest bit.
first_highest : (bytes : List ℕ) (k n : ℕ) →
    bits_from bytes k (n + 1) ≡ bit_of bytes k * 2 ^ n + bits_from bytes (k + 1) n
first_highest bytes k zero =
    let last = bits_from_more bytes k 0 in
    let here : bit_of bytes (k + 0) ≡ bit_of bytes k = ap (bit_of bytes) (omega arith) in
    omega (arith, last, here, no_bits bytes k, no_bits bytes (k + 1))
first_highest bytes k (suc n) =
    let next : suc n ≡ n + 1 = omega arith in
    let last = bits_from_more bytes k (n + 1) in
    let last_after = bits_from_more bytes (k + 1) n in
    let same : bit_of bytes (k + (n + 1)) ≡ bit_of bytes (k + 1 + n) = ap (bit_of bytes) (omega arith) in
    let double = doubled (bit_of bytes k) n (bit_at-lt _ _) in
    rw next (omega (arith, last, last_after, same, double, first_highest bytes k n))

-- To get the next window, the highest bit is dropped and the next bit is appended.
pub bits_from_next : (bytes : List ℕ) (k : ℕ) →
    bits_from bytes (k + 1) 32 ≡ 2 * (bits_from bytes k 32 % 2147483648) + bit_of bytes (k + 32)
bits_from_next bytes k =
    let more = bits_from_more bytes k 32 in
    let first = first_highest bytes k 32 in
    let small = bits_from-lt bytes (k + 1) 32 in
    let bit : bit_of bytes (k + 32) < 2 = bit_at-lt _ _ in
    omega (arith, more, first, small, bit)
