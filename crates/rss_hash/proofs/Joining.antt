-- Lemmas about computing a hash byte by byte from a key's tables.
use Rattle.std.proofs.Common.{◌≡◌, ℕ, ◌+◌, ◌-◌, ◌*◌, ◌/◌, ◌%◌, ◌<◌, ◌==◌, true, false, List, [], cond}
use Rattle.std.proofs.Common.{slice_index, get_or, bit_xor, refl, sym, ap, ◌∙◌, arith}
use Rattle.std.specs.Int.{bit_at}
use Rattle.std.specs.Int.Bits.{xor_assoc, xor_zero_r}
use Rattle.rss_hash.specs.Bits.{bit_of, bits_from}
use Rattle.rss_hash.specs.Registers.{bytes_of_registers}
use Rattle.rss_hash.specs.Tables.{where_one, AreItsWindows, high_share, low_share}
use Rattle.rss_hash.proofs.HashLaws.{xor_swap}
use Rattle.rss_hash.proofs.WindowTables.{half_share-joined}
use Rattle.rss_hash.proofs.Windows.{hash_below, hash_below_more}

-- Combining the hash over the bits below `k` with the window of bit `k` gives the hash that includes bit `k`.
bit_joined : (key input : List ℕ) (k next bit : ℕ) → bit_of input k ≡ bit → k + 1 ≡ next →
    bit_xor (hash_below key input k) (where_one bit (bits_from key k 32)) ≡ hash_below key input next
bit_joined key input k next bit is follows =
    let below = hash_below key input k in
    let window = bits_from key k 32 in
    ap (λ bit. bit_xor below (where_one bit window)) (sym is)
    ∙ elim (bit_of input k == 1) as (λ t. bit_xor below (cond t window 0) ≡ cond t (bit_xor below window) below) [
      | true ↦ refl
      | false ↦ xor_zero_r below
    ] ∙ sym (hash_below_more key input k) ∙ ap (hash_below key input) follows

regrouped : (h a b c d : ℕ) →
    bit_xor h (bit_xor (bit_xor (bit_xor a b) c) d) ≡ bit_xor (bit_xor (bit_xor (bit_xor h a) b) c) d
regrouped h a b c d =
    sym (xor_assoc h (bit_xor (bit_xor a b) c) d)
    ∙ ap (λ n. bit_xor n d) (sym (xor_assoc h (bit_xor a b) c) ∙ ap (λ n. bit_xor n c) (sym (xor_assoc h a b)))

-- Half byte `n` of the input has the value `v`.
record IsHalf (input : List ℕ) (n v : ℕ) : Type 0 where
  first : bit_of input (4 * n) ≡ bit_at v 3
  second : bit_of input (4 * n + 1) ≡ bit_at v 2
  third : bit_of input (4 * n + 2) ≡ bit_at v 1
  fourth : bit_of input (4 * n + 3) ≡ bit_at v 0

-- Combining the hash over the half bytes before `n` with the table entry of half byte `n` gives the hash that includes
-- half byte `n`.
half_joined : (tables : List (List ℕ)) (words input : List ℕ) (n v : ℕ) → AreItsWindows tables words →
    n < 72 → v < 16 → IsHalf input n v →
    bit_xor (hash_below (bytes_of_registers words) input (4 * n)) (slice_index (get_or tables n []) v)
    ≡ hash_below (bytes_of_registers words) input (4 * (n + 1))
half_joined tables words input n v held low small half =
    let key = bytes_of_registers words in
    let k : ℕ = 4 * n in
    let start = hash_below key input k in
    let a = where_one (bit_at v 3) (bits_from key k 32) in
    let b = where_one (bit_at v 2) (bits_from key (k + 1) 32) in
    let c = where_one (bit_at v 1) (bits_from key (k + 2) 32) in
    let d = where_one (bit_at v 0) (bits_from key (k + 3) 32) in
    let entry : slice_index (get_or tables n []) v ≡ bit_xor (bit_xor (bit_xor a b) c) d =
    held.entry n v low small ∙ half_share-joined key n v in
    ap (bit_xor start) entry ∙ regrouped start a b c d
    ∙ ap (λ h. bit_xor (bit_xor (bit_xor h b) c) d) (bit_joined key input k (k + 1) _ half.first refl)
    ∙ ap (λ h. bit_xor (bit_xor h c) d) (bit_joined key input (k + 1) (k + 2) _ half.second (omega arith))
    ∙ ap (λ h. bit_xor h d) (bit_joined key input (k + 2) (k + 3) _ half.third (omega arith))
    ∙ bit_joined key input (k + 3) (4 * (n + 1)) _ half.fourth (omega arith)

-- Bit `k` of the input is bit `j` of byte `i`, counted from the byte's highest bit.
bit_in_byte : (input : List ℕ) (i j k : ℕ) → j < 8 → k ≡ 8 * i + j →
    bit_of input k ≡ bit_at (slice_index input i) (7 - j)
bit_in_byte input i j k within is =
    let byte : k / 8 ≡ i = omega arith in
    let place : 7 - k % 8 ≡ 7 - j = omega arith in
    ap (λ n. bit_at (slice_index input n) (7 - k % 8)) byte ∙ ap (bit_at (slice_index input i)) place

high_half : (input : List ℕ) (i : ℕ) → IsHalf input (2 * i) (slice_index input i / 16)
high_half input i = record {
  first = bit_in_byte input i 0 (4 * (2 * i)) (omega arith) (omega arith) ∙ omega arith;
  second = bit_in_byte input i 1 (4 * (2 * i) + 1) (omega arith) (omega arith) ∙ omega arith;
  third = bit_in_byte input i 2 (4 * (2 * i) + 2) (omega arith) (omega arith) ∙ omega arith;
  fourth = bit_in_byte input i 3 (4 * (2 * i) + 3) (omega arith) (omega arith) ∙ omega arith;
}

low_half : (input : List ℕ) (i : ℕ) → IsHalf input (2 * i + 1) (slice_index input i % 16)
low_half input i = record {
  first = bit_in_byte input i 4 (4 * (2 * i + 1)) (omega arith) (omega arith) ∙ omega arith;
  second = bit_in_byte input i 5 (4 * (2 * i + 1) + 1) (omega arith) (omega arith) ∙ omega arith;
  third = bit_in_byte input i 6 (4 * (2 * i + 1) + 2) (omega arith) (omega arith) ∙ omega arith;
  fourth = bit_in_byte input i 7 (4 * (2 * i + 1) + 3) (omega arith) (omega arith) ∙ omega arith;
}

-- Combining the hash over the bytes before `i` with the two table entries of byte `i` gives the hash that includes byte
-- `i`.
pub byte_joined : (tables : List (List ℕ)) (words input : List ℕ) (i high low first second : ℕ)
    → AreItsWindows tables words → i < 36 → slice_index input i < 256
    → first ≡ high_share tables i (slice_index input i)
    → second ≡ low_share tables i (slice_index input i)
    → bit_xor high low ≡ hash_below (bytes_of_registers words) input (8 * i)
    → bit_xor (bit_xor high first) (bit_xor low second) ≡ hash_below (bytes_of_registers words) input (8 * (i + 1))
byte_joined tables words input i high low first second held within small is_first is_second before =
    let below = hash_below (bytes_of_registers words) input in
    let byte = slice_index input i in
    xor_swap high first low second ∙ sym (xor_assoc (bit_xor high low) first second)
    ∙ ap (λ h. bit_xor (bit_xor h first) second) (before ∙ ap below (omega arith))
    ∙ ap (λ share. bit_xor (bit_xor (below (4 * (2 * i))) share) second) is_first
    ∙ ap (λ h. bit_xor h second)
    (half_joined tables words input (2 * i) (byte / 16) held (omega arith) (omega arith) (high_half input i))
    ∙ ap (bit_xor (below (4 * (2 * i + 1)))) is_second
    ∙ half_joined tables words input (2 * i + 1) (byte % 16) held (omega arith) (omega arith) (low_half input i)
    ∙ ap below (omega arith)
