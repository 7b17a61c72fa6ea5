-- Each bit of the hash is a parity of key bits.
use Rattle.std.proofs.Common.{◌≡◌, ℕ, zero, suc, ◌+◌, ◌-◌, ◌*◌, ◌%◌, ◌<◌, ◌==◌, List, [], ◌∷◌, cond, map, count_by, bit_xor, refl, ap, ◌∙◌, arith}
use Rattle.std.specs.Int.{bit_at}
use Rattle.std.specs.Int.Bits.{xor_zero_l}
use Rattle.std.proofs.lemmas.List.Sums.{sum_by-cons}
use Rattle.std.proofs.lemmas.Nat.Bits.{bit_at_xor, bit_at-lt, bit_at-zero, bit_at-suc, bit_at_lowest}
use Rattle.rss_hash.specs.Bits.{bit_of, set_bits, bits_from}
use Rattle.rss_hash.specs.Toeplitz.{xor_of, toeplitz_hash, HasParityBits}
use Rattle.rss_hash.proofs.HashLaws.{fold_xor}
use Rattle.rss_hash.proofs.Windows.{bits_from_more}

bit_at-double_low : (n bit : ℕ) → bit < 2 → bit_at (2 * n + bit) 0 ≡ bit
bit_at-double_low n bit small = bit_at_lowest (2 * n + bit) ∙ omega arith

bit_at-double_high : (n bit i : ℕ) → bit < 2 → bit_at (2 * n + bit) (suc i) ≡ bit_at n i
bit_at-double_high n bit i small = bit_at-suc (2 * n + bit) i ∙ ap (λ half. bit_at half i) (omega arith)

-- Bit `j` of a window, counted from the window's highest bit, is bit `k + j` of the byte string.
bit_at-bits_from : (bytes : List ℕ) (k n j i : ℕ) → j + i + 1 ≡ n
    → bit_at (bits_from bytes k n) i ≡ bit_of bytes (k + j)
bit_at-bits_from bytes k zero j i place = absurd (omega arith)
bit_at-bits_from bytes k (suc n) j zero place =
    let next : suc n ≡ n + 1 = omega arith in
    ap (λ m. bit_at (bits_from bytes k m) 0) next
    ∙ ap (λ m. bit_at m 0) (bits_from_more bytes k n)
    ∙ bit_at-double_low (bits_from bytes k n) (bit_of bytes (k + n)) (bit_at-lt _ _)
    ∙ ap (λ m. bit_of bytes (k + m)) (omega arith)
bit_at-bits_from bytes k (suc n) j (suc i) place =
    let next : suc n ≡ n + 1 = omega arith in
    ap (λ m. bit_at (bits_from bytes k m) (suc i)) next
    ∙ ap (λ m. bit_at m (suc i)) (bits_from_more bytes k n)
    ∙ bit_at-double_high (bits_from bytes k n) (bit_of bytes (k + n)) i (bit_at-lt _ _)
    ∙ bit_at-bits_from bytes k n j i (omega arith)

bit-from_test : (bit : ℕ) → bit < 2 → bit ≡ cond (bit == 1) 1 0
bit-from_test zero small = refl
bit-from_test (suc zero) small = refl
bit-from_test (suc (suc bit)) small = absurd (omega arith)

-- Bit `j` of the combined windows is the parity of the key bits that are `j` after the windows' first bits.
parity : (key : List ℕ) (j : ℕ) → j < 32 → (ks : List ℕ)
    → bit_at (xor_of (map (λ k. bits_from key k 32) ks)) (31 - j) ≡ count_by (λ k. bit_of key (k + j) == 1) ks % 2
parity key j within [] = bit_at-zero (31 - j)
parity key j within (k ∷ ks) =
    let window = bits_from key k 32 in
    let rest = xor_of (map (λ k. bits_from key k 32) ks) in
    let first = bit_at-bits_from key k 32 j (31 - j) (omega arith) in
    let test = bit-from_test (bit_of key (k + j)) (bit_at-lt _ _) in
    let others = parity key j within ks in
    let counted = sum_by-cons (λ k. cond (bit_of key (k + j) == 1) 1 0) k ks in
    ap (λ n. bit_at n (31 - j)) (fold_xor (bit_xor 0 window) (map (λ k. bits_from key k 32) ks)
    ∙ ap (λ n. bit_xor n rest) (xor_zero_l window))
    ∙ bit_at_xor window rest (31 - j)
    ∙ omega (arith, first, test, others, counted)

pub has_parity_bits : (key : List ℕ) → HasParityBits key (toeplitz_hash key)
unfolding toeplitz_hash
has_parity_bits key input j within = parity key j within (set_bits input)
