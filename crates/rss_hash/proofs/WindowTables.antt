-- The number that a half byte adds to the hash is the exclusive or of the key's windows at the half byte's 1 bits.
use Rattle.std.proofs.Common.{◌≡◌, ℕ, ◌+◌, ◌*◌, ◌-◌, ◌<◌, List, [], ◌∷◌, map, slice_index, bit_xor, sym, ap, ◌∙◌, arith}
use Rattle.std.specs.Int.{bit_at}
use Rattle.std.specs.Int.Bits.{xor_assoc, xor_zero_r}
use Rattle.std.specs.List.{range_with_len}
use Rattle.std.proofs.lemmas.List.FromFn.{get_or-map-range_with_len}
use Rattle.rss_hash.specs.Bits.{half_bits, bits_from, window}
use Rattle.rss_hash.specs.Toeplitz.{xor_of}
use Rattle.rss_hash.specs.Tables.{where_one, joined, half_share}
use Rattle.rss_hash.proofs.HashLaws.{xor_where-cons}

from_the_left : (a b c d : ℕ) →
    bit_xor a (bit_xor b (bit_xor c (bit_xor d 0))) ≡ bit_xor (bit_xor (bit_xor a b) c) d
from_the_left a b c d =
    ap (λ n. bit_xor a (bit_xor b (bit_xor c n))) (xor_zero_r d)
    ∙ sym (xor_assoc (bit_xor a b) c d ∙ xor_assoc a b (bit_xor c d))

-- The exclusive or of `f` over the bits of a half byte that are 1.
over_half_bits : (f : ℕ → ℕ) (v : ℕ) → xor_of (map f (half_bits v)) ≡ joined (f 0) (f 1) (f 2) (f 3) v
over_half_bits f v =
    let bit : ℕ → ℕ = λ j. bit_at v (3 - j) in
    let a = where_one (bit_at v 3) (f 0) in
    let b = where_one (bit_at v 2) (f 1) in
    let c = where_one (bit_at v 1) (f 2) in
    let d = where_one (bit_at v 0) (f 3) in
    xor_where-cons f bit 0 (1 ∷ 2 ∷ 3 ∷ [])
    ∙ ap (bit_xor a) (xor_where-cons f bit 1 (2 ∷ 3 ∷ []))
    ∙ ap (λ n. bit_xor a (bit_xor b n)) (xor_where-cons f bit 2 (3 ∷ []))
    ∙ ap (λ n. bit_xor a (bit_xor b (bit_xor c n))) (xor_where-cons f bit 3 [])
    ∙ from_the_left a b c d

pub half_share-joined : (key : List ℕ) (k v : ℕ) →
    half_share key k v
    ≡ joined (window key (4 * k)) (window key (4 * k + 1)) (window key (4 * k + 2)) (window key (4 * k + 3)) v
unfolding half_share
half_share-joined key k v =
    let first : 4 * k + 0 ≡ 4 * k = omega arith in
    over_half_bits (λ j. window key (4 * k + j)) v
    ∙ ap (λ n. joined (window key n) (window key (4 * k + 1)) (window key (4 * k + 2)) (window key (4 * k + 3)) v) first

-- Each table entry of half byte `k` is the number that the half byte adds to the hash.
pub choice_is_share : (a b c d : ℕ) (key : List ℕ) (k v : ℕ) → v < 16 →
    a ≡ bits_from key (4 * k) 32 → b ≡ bits_from key (4 * k + 1) 32 →
    c ≡ bits_from key (4 * k + 2) 32 → d ≡ bits_from key (4 * k + 3) 32 →
    slice_index (map (joined a b c d) (range_with_len 0 16)) v ≡ half_share key k v
choice_is_share a b c d key k v small is_a is_b is_c is_d =
    get_or-map-range_with_len (joined a b c d) 0 16 v v 0 small (omega arith)
    ∙ rw (is_a, is_b, is_c, is_d) (sym (half_share-joined key k v))
