-- Lemmas about adding single bits to a window, and about the hash over the input bits processed so far.
use Rattle.std.proofs.Common.{◌≡◌, ℕ, ◌+◌, ◌*◌, ◌==◌, Bool, true, false, List, [], ◌∷◌, ◌++◌, cond, map, filter, bit_xor, refl, arith}
use Rattle.std.specs.List.{range_with_len}
use Rattle.std.proofs.lemmas.Int.Digits.{number_push}
use Rattle.std.proofs.lemmas.List.{map-id, map_push, append-nil}
use Rattle.std.proofs.lemmas.List.FromFn.{map-range_with_len_more, filter_of_map_range_with_len_more}
use Rattle.std.proofs.lemmas.List.Sums.{fold_push}
use Rattle.rss_hash.specs.Bits.{bit_of, bits_from}
use Rattle.rss_hash.specs.Toeplitz.{xor_of}

-- One more bit doubles the number and adds the bit.
pub bits_from_more : (bytes : List ℕ) (k n : ℕ)
    → bits_from bytes k (n + 1) ≡ 2 * bits_from bytes k n + bit_of bytes (k + n)
unfolding bits_from
bits_from_more bytes k n =
    let more = map-range_with_len_more (bit_of bytes) k n (k + n) refl in
    let last = number_push 2 (map (bit_of bytes) (range_with_len k n)) (bit_of bytes (k + n)) in
    rw more (omega (arith, last))

-- The exclusive or of the key's windows at the input bits below `n` that are 1.
abbrev pub hash_below : List ℕ → List ℕ → ℕ → ℕ
hash_below key input n = xor_of (map (λ k. bits_from key k 32) (filter (λ k. bit_of input k == 1) (range_with_len 0 n)))

pub filter-range_more : (p : ℕ → Bool) (n : ℕ)
    → filter p (range_with_len 0 (n + 1)) ≡ filter p (range_with_len 0 n) ++ cond (p n) (n ∷ []) []
filter-range_more p n =
    simp map-id at (filter_of_map_range_with_len_more p (λ (k : ℕ). k) 0 n n (omega arith))

-- The exclusive or of `f` over some numbers and, if `b` is true, over one more number.
xor_of-map_more : (f : ℕ → ℕ) (ks : List ℕ) (n : ℕ) (b : Bool)
    → xor_of (map f (ks ++ cond b (n ∷ []) [])) ≡ cond b (bit_xor (xor_of (map f ks)) (f n)) (xor_of (map f ks))
xor_of-map_more f ks n true = rw (map_push f ks n) (fold_push bit_xor 0 (map f ks) (f n))
xor_of-map_more f ks n false = rw (append-nil ks) refl

pub hash_below_more : (key input : List ℕ) (n : ℕ)
    → hash_below key input (n + 1)
    ≡ cond (bit_of input n == 1) (bit_xor (hash_below key input n) (bits_from key n 32)) (hash_below key input n)
hash_below_more key input n =
    rw (filter-range_more (λ k. bit_of input k == 1) n)
    (xor_of-map_more (λ k. bits_from key k 32) (filter (λ k. bit_of input k == 1) (range_with_len 0 n)) n
    (bit_of input n == 1))
