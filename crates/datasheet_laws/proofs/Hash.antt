-- Each bit of a frame's hash, by the registers of its key.
use Rattle.std.proofs.Common.{◌≡◌, ℕ, zero, suc, ◌+◌, ◌-◌, ◌*◌, ◌/◌, ◌%◌, ◌^◌, ◌<◌, ◌≤◌, ◌==◌, Bool, true, false, ◌&&◌, cond, List, ◌∷◌, length, filter, slice_index, count_by, refl, ap, sym, ◌∙◌, arith}
use Rattle.std.proofs.Math.Nat.{div-div-eq-div-mul}
use Rattle.std.proofs.lemmas.List.Sums.{sum_by-cons}
use Rattle.std.proofs.lemmas.Nat.{pow-add}
use Rattle.std.proofs.lemmas.Nat.Bits.{bit_at_cat_low}
use Rattle.reg_table.specs.declared.rows.RowId.TheVariants as row
use Rattle.rss_hash.specs.Bits.{bit_of}
use Rattle.rss_hash.specs.Registers.{bytes_of_registers}
use Rattle.rss_hash.specs.Toeplitz.{toeplitz_hash}
use Rattle.rss_hash.proofs.HashBits.{has_parity_bits}
use Rattle.rss_hash.proofs.RegisterBytes.{register_byte_at}
use Rattle.datasheet_laws.specs.NumberPrelude.{HasShape, Registers, bit_at, has_bit, range_with_len, row_words, to_le_bytes}
use Rattle.datasheet_laws.specs.NumberPrelude.{w32, word_of}
use Rattle.datasheet_laws.specs.ByAddress.{word, held}
use Rattle.datasheet_laws.specs.Hash.{key_bit, input_bit, HashIsOfTheKey}
use Rattle.datasheet_laws.proofs.Table.{aliases}

-- A bit of a byte of a word is a bit of the word.
low_bit : (n b : ℕ) → b < 8 → bit_at (n % 256) b ≡ bit_at n b
low_bit n b low =
    let whole : n / 256 * 256 + n % 256 ≡ n = omega arith in
    sym (bit_at_cat_low (n / 256) 8 (n % 256) b low) ∙ ap (λ m. bit_at m b) whole

high_bit : (n k b : ℕ) → bit_at (n / 2 ^ k) b ≡ bit_at n (k + b)
high_bit n k b = ap (λ m. m % 2) (div-div-eq-div-mul n (2 ^ k) (2 ^ b)) ∙ ap (λ m. n / m % 2) (sym (pow-add 2 k b))

byte_of : (w d : ℕ) → d < 4 → slice_index (to_le_bytes w32 w) d ≡ w / 2 ^ (8 * d) % 256
byte_of w zero low = omega arith
byte_of w (suc zero) low = omega arith
byte_of w (suc (suc zero)) low = omega arith
byte_of w (suc (suc (suc zero))) low = omega arith
byte_of w (suc (suc (suc (suc d)))) low = absurd (omega arith)

module _ (r : Registers) (h : HasShape r) where
  abbrev key : List ℕ
  key = bytes_of_registers (row_words r.words row.Rssrk)

  -- A bit of the key, by its register.
  by_register : (k : ℕ) → k < 320 → (bit_of key k == 1) ≡ key_bit r k
  by_register k low =
      let many : length (row_words r.words row.Rssrk) ≡ 10 = h.has_indices row.Rssrk in
      let d = k / 8 % 4 in
      let b = 7 - k % 8 in
      let i = k / 8 / 4 in
      let same : i ≡ k / 32 = omega arith in
      let here : word_of r row.Rssrk (k / 32) ≡ word r (0x0EB80 + 4 * (k / 32)) =
      sym (ap (held r) (aliases.key (k / 32) (omega arith))) in
      ap (λ n. n == 1) (
      ap (λ n. bit_at n b) (register_byte_at (row_words r.words row.Rssrk) (k / 8) (omega (arith, many))
      ∙ byte_of (word_of r row.Rssrk i) d (omega arith))
      ∙ low_bit (word_of r row.Rssrk i / 2 ^ (8 * d)) b (omega arith)
      ∙ high_bit (word_of r row.Rssrk i) (8 * d) b
      ∙ ap (λ n. bit_at (word_of r row.Rssrk n) (8 * d + b)) same
      ∙ ap (λ n. bit_at n (8 * d + b)) here
      )

none : (n : ℕ) → n ≡ 0 + n
none n = omega arith

-- How many numbers pass two tests.
counted : (p q both : ℕ → Bool) (s n : ℕ) → ((k : ℕ) → s ≤ k → k < s + n → (q k && p k) ≡ both k)
    → count_by p (filter q (range_with_len s n)) ≡ count_by both (range_with_len s n)
counted p q both s zero same = refl
counted p q both s (suc n) same =
    let rest = range_with_len (s + 1) n in
    let others = counted p q both (s + 1) n (λ k low high. same k (omega arith) (omega arith)) in
    let here = same s (omega arith) (omega arith) in
    elim (q s) as (λ b. (b && p s) ≡ both s
    → count_by p (cond b (s ∷ filter q rest) (filter q rest)) ≡ count_by both (s ∷ rest)) [
      | true ↦ λ e. sum_by-cons (λ k. cond (p k) 1 0) s (filter q rest)
          ∙ (λ t. cond (e t) 1 0 + others t) ∙ sym (sum_by-cons (λ k. cond (both k) 1 0) s rest)
      | false ↦ λ e. none (count_by p (filter q rest)) ∙ (λ t. cond (e t) 1 0 + others t)
          ∙ sym (sum_by-cons (λ k. cond (both k) 1 0) s rest)
    ] here

pub of_the_key : HashIsOfTheKey
of_the_key r h frame input is few j low =
    let hash = toeplitz_hash (key r h) in
    ap (λ i. has_bit (31 - j) (hash i)) is
    ∙ ap (λ n. n == 1) (has_parity_bits (key r h) input j low)
    ∙ ap (λ n. n % 2 == 1) (counted (λ k. bit_of (key r h) (k + j) == 1) (λ k. bit_of input k == 1)
    (λ k. input_bit input k && key_bit r (k + j)) 0 (8 * length input)
    (λ k above below. ap (λ b. input_bit input k && b) (by_register r h (k + j) (omega arith))))
