-- Writing a word of the key changes nothing for the half bytes that use no bit of that word.
use Rattle.std.proofs.Common.{◌≡◌, ◌≢◌, ℕ, zero, suc, ◌+◌, ◌*◌, ◌-◌, ◌/◌, ◌%◌, ◌<◌, inl, inr, List, length, slice_index, set, refl, sym, ap, ◌∙◌, arith}
use Rattle.std.specs.Int.{bit_at, to_le_bytes, w32}
use Rattle.std.proofs.lemmas.List.{get_or-set_other, length-set}
use Rattle.rss_hash.specs.Bits.{bit_of, bits_from}
use Rattle.rss_hash.specs.Registers.{bytes_of_registers}
use Rattle.rss_hash.specs.Tables.{half_share, AreItsWindows, IsBeyond, FitBeyond}
use Rattle.rss_hash.proofs.RegisterBytes.{register_byte_at}
use Rattle.rss_hash.proofs.Sliding.{no_bits}
use Rattle.rss_hash.proofs.WindowTables.{half_share-joined}
use Rattle.rss_hash.proofs.Windows.{bits_from_more}

-- The two keys have the same `count` bits, starting at bit `k`.
abbrev AgreeFrom : (old new : List ℕ) (k count : ℕ) → Type 0
AgreeFrom old new k count = (j : ℕ) → j < count → bit_of new (k + j) ≡ bit_of old (k + j)

bits_agree : (old new : List ℕ) (k count : ℕ) → AgreeFrom old new k count
    → bits_from new k count ≡ bits_from old k count
bits_agree old new k zero agree = no_bits new k ∙ sym (no_bits old k)
bits_agree old new k (suc n) agree =
    let next : suc n ≡ n + 1 = omega arith in
    let front = bits_agree old new k n (λ j below. agree j (omega (arith, below))) in
    let last = agree n (omega arith) in
    rw next (omega (arith, bits_from_more old k n, bits_from_more new k n, front, last))

module _ (words : List ℕ) (index word : ℕ) (ten : length words ≡ 10) where
  abbrev written : List ℕ
  written = set words index word

  byte_stands : (n : ℕ) → n < 40 → n / 4 ≢ index
      → slice_index (bytes_of_registers written) n ≡ slice_index (bytes_of_registers words) n
  byte_stands n below other =
      register_byte_at written n (omega (arith, below, ten, length-set words index word))
      ∙ ap (λ w. slice_index (to_le_bytes w32 w) (n % 4)) (get_or-set_other words index (n / 4) word 0 other)
      ∙ sym (register_byte_at words n (omega (arith, below, ten)))

  bit_stands : (k : ℕ) → k < 320 → k / 32 ≢ index
      → bit_of (bytes_of_registers written) k ≡ bit_of (bytes_of_registers words) k
  bit_stands k below other =
      ap (λ byte. bit_at byte (7 - k % 8))
      (byte_stands (k / 8) (omega (arith, below)) (λ same. other (omega (arith, same))))

  window_stands : (n j k : ℕ) → n < 72 → j < 4 → k ≡ 4 * n + j → IsBeyond index n
      → bits_from (bytes_of_registers written) k 32 ≡ bits_from (bytes_of_registers words) k 32
  window_stands n j k below few at (inl before) =
      bits_agree (bytes_of_registers words) (bytes_of_registers written) k 32 (λ i within.
      bit_stands (k + i) (omega (arith, below, few, at, within)) (λ same. omega (arith, before, few, at, within, same)))
  window_stands n j k below few at (inr after) =
      bits_agree (bytes_of_registers words) (bytes_of_registers written) k 32 (λ i within.
      bit_stands (k + i) (omega (arith, below, few, at, within)) (λ same. omega (arith, after, few, at, within, same)))

  share_stands : (k v : ℕ) → k < 72 → IsBeyond index k
      → half_share (bytes_of_registers written) k v ≡ half_share (bytes_of_registers words) k v
  share_stands k v below beyond =
      let stands = λ (j at : ℕ) (few : j < 4) (is : at ≡ 4 * k + j). window_stands k j at below few is beyond in
      half_share-joined (bytes_of_registers written) k v
      ∙ rw (stands 0 (4 * k) (omega arith) (omega arith), stands 1 (4 * k + 1) (omega arith) refl) (
      rw (stands 2 (4 * k + 2) (omega arith) refl, stands 3 (4 * k + 3) (omega arith) refl)
      (sym (half_share-joined (bytes_of_registers words) k v))
      )

-- For half bytes that use no bit of the written word, tables with the old key's windows also contain the new key's
-- windows.
pub beyond_a_word : (tables : List (List ℕ)) (words : List ℕ) (index word : ℕ) → length words ≡ 10
    → AreItsWindows tables words → FitBeyond tables (set words index word) index
beyond_a_word tables words index word ten held = record {
  whole = held.whole;
  entry = λ k v below small beyond.
      held.entry k v below small ∙ sym (share_stands words index word ten k v below beyond);
}
