-- The Toeplitz hash is linear and ignores zero bytes at an input's end.
use Rattle.std.proofs.Common.{◌≡◌, ℕ, zero, suc, ◌+◌, ◌*◌, ◌-◌, ◌/◌, ◌%◌, ◌<◌, ◌≤◌, ◌==◌, Bool, true, false, List, [], ◌∷◌, ◌++◌, length, cond, map, filter, fold, replicate, slice_index, bit_xor, refl, sym, ap, ◌∙◌, arith}
use Rattle.std.specs.Int.{bit_at}
use Rattle.std.specs.Int.Bits.{xor_assoc, xor_self, xor_zero_l, xor_zero_r}
use Rattle.std.specs.List.{range_with_len}
use Rattle.std.proofs.lemmas.Nat.{xor_comm}
use Rattle.std.proofs.lemmas.Nat.Bits.{bit_at_xor, bit_at-lt, bit_at-zero}
use Rattle.std.proofs.lemmas.List.{append-nil, get_or_past, length-append, length-replicate}
use Rattle.rss_hash.specs.Bits.{bit_of, set_bits, bits_from}
use Rattle.rss_hash.proofs.Windows.{filter-range_more}
use Rattle.rss_hash.specs.Toeplitz.{xor_of, xor_bytes, toeplitz_hash, IsLinear, IgnoresTrailingZeros}

-- ---- exclusive or

pub fold_xor : (a : ℕ) (xs : List ℕ) → fold bit_xor a xs ≡ bit_xor a (xor_of xs)
fold_xor a [] = sym (xor_zero_r a)
fold_xor a (x ∷ xs) =
    fold_xor (bit_xor a x) xs ∙ xor_assoc a x (xor_of xs)
    ∙ ap (bit_xor a) (sym (fold_xor (bit_xor 0 x) xs ∙ ap (λ n. bit_xor n (xor_of xs)) (xor_zero_l x)))

pub xor_swap : (a b c d : ℕ) → bit_xor (bit_xor a b) (bit_xor c d) ≡ bit_xor (bit_xor a c) (bit_xor b d)
xor_swap a b c d =
    xor_assoc a b (bit_xor c d) ∙ ap (bit_xor a) (sym (xor_assoc b c d) ∙ ap (λ n. bit_xor n d) (xor_comm b c)
    ∙ xor_assoc c b d) ∙ sym (xor_assoc a c (bit_xor b d))

-- The exclusive or of `f` over the numbers at which `b` is 1.
abbrev xor_where : (ℕ → ℕ) → (ℕ → ℕ) → List ℕ → ℕ
xor_where f b ks = xor_of (map f (filter (λ k. b k == 1) ks))

-- The number if the bit is 1, otherwise 0.
abbrev share : ℕ → ℕ → ℕ
share bit n = cond (bit == 1) n 0

pub xor_where-cons : (f b : ℕ → ℕ) (k : ℕ) (ks : List ℕ)
    → xor_where f b (k ∷ ks) ≡ bit_xor (share (b k) (f k)) (xor_where f b ks)
xor_where-cons f b k ks =
    let rest = filter (λ k. b k == 1) ks in
    elim (b k == 1) as (λ t. xor_of (map f (cond t (k ∷ rest) rest)) ≡ bit_xor (cond t (f k) 0) (xor_of (map f rest))) [
      | true ↦ fold_xor (bit_xor 0 (f k)) (map f rest) ∙ ap (λ n. bit_xor n (xor_of (map f rest))) (xor_zero_l (f k))
      | false ↦ sym (xor_zero_l (xor_of (map f rest)))
    ]

share-xor : (a b n : ℕ) → a < 2 → b < 2 → share ((a + b) % 2) n ≡ bit_xor (share a n) (share b n)
share-xor zero zero n p q = sym (xor_zero_l 0)
share-xor zero (suc zero) n p q = sym (xor_zero_l n)
share-xor (suc zero) zero n p q = sym (xor_zero_r n)
share-xor (suc zero) (suc zero) n p q = sym (xor_self n)
share-xor (suc (suc a)) b n p q = absurd (omega arith)
share-xor a (suc (suc b)) n p q = absurd (omega arith)

-- If each bit of `c` is the sum of the bits of `a` and `b`, modulo 2, two results are equal: the exclusive or over `c`,
-- and the exclusive or of the results over `a` and over `b`.
pub xor_where-sum : (f a b c : ℕ → ℕ) → ((k : ℕ) → a k < 2) → ((k : ℕ) → b k < 2) → ((k : ℕ) → c k ≡ (a k + b k) % 2)
    → (ks : List ℕ) → xor_where f c ks ≡ bit_xor (xor_where f a ks) (xor_where f b ks)
xor_where-sum f a b c small_a small_b sums [] = sym (xor_zero_l 0)
xor_where-sum f a b c small_a small_b sums (k ∷ ks) =
    xor_where-cons f c k ks
    ∙ ap (λ n. bit_xor (share n (f k)) (xor_where f c ks)) (sums k)
    ∙ ap (λ n. bit_xor n (xor_where f c ks)) (share-xor (a k) (b k) (f k) (small_a k) (small_b k))
    ∙ ap (bit_xor (bit_xor (share (a k) (f k)) (share (b k) (f k)))) (xor_where-sum f a b c small_a small_b sums ks)
    ∙ xor_swap (share (a k) (f k)) (share (b k) (f k)) (xor_where f a ks) (xor_where f b ks)
    ∙ sym (ap (λ n. bit_xor n (xor_where f b (k ∷ ks))) (xor_where-cons f a k ks)
    ∙ ap (bit_xor (bit_xor (share (a k) (f k)) (xor_where f a ks))) (xor_where-cons f b k ks))

-- ---- linearity

length-xor_bytes : (a b : List ℕ) → length a ≡ length b → length (xor_bytes a b) ≡ length a
length-xor_bytes [] b same = refl
length-xor_bytes (x ∷ a) [] same = absurd (omega arith)
length-xor_bytes (x ∷ a) (y ∷ b) same = ap suc (length-xor_bytes a b (omega arith))

slice_index-xor_bytes : (a b : List ℕ) (i : ℕ) → length a ≡ length b
    → slice_index (xor_bytes a b) i ≡ bit_xor (slice_index a i) (slice_index b i)
slice_index-xor_bytes [] [] i same = sym (xor_zero_l 0)
slice_index-xor_bytes [] (y ∷ b) i same = absurd (omega arith)
slice_index-xor_bytes (x ∷ a) [] i same = absurd (omega arith)
slice_index-xor_bytes (x ∷ a) (y ∷ b) zero same = refl
slice_index-xor_bytes (x ∷ a) (y ∷ b) (suc i) same = slice_index-xor_bytes a b i (omega arith)

bit_of-xor_bytes : (a b : List ℕ) (k : ℕ) → length a ≡ length b
    → bit_of (xor_bytes a b) k ≡ (bit_of a k + bit_of b k) % 2
bit_of-xor_bytes a b k same =
    rw (slice_index-xor_bytes a b (k / 8) same) (bit_at_xor (slice_index a (k / 8)) (slice_index b (k / 8)) _)

pub linear : (key : List ℕ) → IsLinear (toeplitz_hash key)
unfolding toeplitz_hash
linear key a b same =
    let f : ℕ → ℕ = λ k. bits_from key k 32 in
    let part : (ℕ → ℕ) → ℕ → ℕ = λ bits n. xor_where f bits (range_with_len 0 (8 * n)) in
    ap (part (bit_of (xor_bytes a b))) (length-xor_bytes a b same)
    ∙ xor_where-sum f (bit_of a) (bit_of b) (bit_of (xor_bytes a b)) (λ k. bit_at-lt _ _) (λ k. bit_at-lt _ _)
    (λ k. bit_of-xor_bytes a b k same) (range_with_len 0 (8 * length a))
    ∙ ap (λ n. bit_xor (part (bit_of a) (length a)) (part (bit_of b) n)) same

-- ---- zero bytes at the end

pub slice_index-zeros : (count i : ℕ) → slice_index (replicate count 0) i ≡ 0
slice_index-zeros zero i = refl
slice_index-zeros (suc count) zero = refl
slice_index-zeros (suc count) (suc i) = slice_index-zeros count i

slice_index-append_zeros : (bytes : List ℕ) (count i : ℕ)
    → slice_index (bytes ++ replicate count 0) i ≡ slice_index bytes i
slice_index-append_zeros [] count i = slice_index-zeros count i
slice_index-append_zeros (x ∷ bytes) count zero = refl
slice_index-append_zeros (x ∷ bytes) count (suc i) = slice_index-append_zeros bytes count i

filter-same : (p q : ℕ → Bool) → ((k : ℕ) → p k ≡ q k) → (ks : List ℕ) → filter p ks ≡ filter q ks
filter-same p q same [] = refl
filter-same p q same (k ∷ ks) =
    ap (λ t. cond t (k ∷ filter p ks) (filter p ks)) (same k)
    ∙ ap (λ rest. cond (q k) (k ∷ rest) rest) (filter-same p q same ks)

-- If all numbers from `n` on fail the test, extending the range beyond `n` doesn't change the filtered list.
filter-range_past : (p : ℕ → Bool) (n more : ℕ) → ((k : ℕ) → n ≤ k → p k ≡ false)
    → filter p (range_with_len 0 (n + more)) ≡ filter p (range_with_len 0 n)
filter-range_past p n zero past = ap (λ m. filter p (range_with_len 0 m)) (omega arith)
filter-range_past p n (suc more) past =
    let next : n + suc more ≡ (n + more) + 1 = omega arith in
    ap (λ m. filter p (range_with_len 0 m)) next
    ∙ filter-range_more p (n + more)
    ∙ ap (λ t. filter p (range_with_len 0 (n + more)) ++ cond t ((n + more) ∷ []) []) (past (n + more) (omega arith))
    ∙ append-nil (filter p (range_with_len 0 (n + more)))
    ∙ filter-range_past p n more past

bit_of-past : (bytes : List ℕ) (k : ℕ) → 8 * length bytes ≤ k → bit_of bytes k ≡ 0
bit_of-past bytes k past = rw (get_or_past bytes (k / 8) 0 (omega arith)) (bit_at-zero (7 - k % 8))

set_bits-append_zeros : (bytes : List ℕ) (count : ℕ) → set_bits (bytes ++ replicate count 0) ≡ set_bits bytes
set_bits-append_zeros bytes count =
    let p : ℕ → Bool = λ k. bit_of bytes k == 1 in
    let long : 8 * length (bytes ++ replicate count 0) ≡ 8 * length bytes + 8 * count =
    simp (length-append, length-replicate) (omega arith) in
    filter-same (λ k. bit_of (bytes ++ replicate count 0) k == 1) p
    (λ k. ap (λ byte. bit_at byte (7 - k % 8) == 1) (slice_index-append_zeros bytes count (k / 8)))
    (range_with_len 0 (8 * length (bytes ++ replicate count 0)))
    ∙ ap (λ n. filter p (range_with_len 0 n)) long
    ∙ filter-range_past p (8 * length bytes) (8 * count) (λ k past. ap (λ bit. bit == 1) (bit_of-past bytes k past))

pub ignores_trailing_zeros : (key : List ℕ) → IgnoresTrailingZeros (toeplitz_hash key)
unfolding toeplitz_hash
ignores_trailing_zeros key input count =
    ap (λ ks. xor_of (map (λ k. bits_from key k 32) ks)) (set_bits-append_zeros input count)
