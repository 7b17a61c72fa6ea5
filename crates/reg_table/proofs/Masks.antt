-- Lemmas about single-bit masks and 32-bit words.
use Rattle.std.proofs.Common.{◌≡◌, ℕ, zero, suc, ◌+◌, ◌-◌, ◌*◌, ◌^◌, ◌<◌, ◌==◌, bit_and, ap, sym, subst, ◌∙◌, inl, inr, arith}
use Rattle.std.specs.Int.{bit_at}
use Rattle.std.specs.Int.Bits.{or_add_and}
use Rattle.std.specs.Prelude.{bit_or}
use Rattle.std.proofs.lemmas.Nat.{pow_pos, and-not, and_comm}
use Rattle.std.proofs.lemmas.Nat.Bits.{and_pow, bit_at-lt}
use Rattle.std.proofs.lemmas.Bool.{cases_Bool, cond-true, cond-false, eqb-true, eqb-false}
use Rattle.std.proofs.lemmas.Bool.Decides.{nat_tests}
use Rattle.bitflags.specs.Sets.{without}
use Rattle.reg_table.specs.Single.{length_in, IsSingle, has_flag, with_flag, without_flag}

-- ---- testing the bit

times-eq : (bit n : ℕ) → bit < 2 → 0 < n → (bit * n == n) ≡ (bit == 1)
times-eq zero n small positive = grind (arith, nat_tests)
times-eq (suc zero) n small positive = grind (arith, nat_tests)
times-eq (suc (suc bit)) n small positive = absurd (omega arith)

contains_bit : (word k : ℕ) → (bit_and word (2 ^ k) == 2 ^ k) ≡ has_flag (2 ^ k) word
contains_bit word k = ap (λ n. n == 2 ^ k) (and_pow word k)
    ∙ times-eq (bit_at word k) (2 ^ k) (bit_at-lt word k) (pow_pos k)

-- A word contains a single-bit mask if and only if that bit is 1.
pub contains_single : (word mask : ℕ) → IsSingle mask → (bit_and word mask == mask) ≡ has_flag mask word
contains_single word mask single =
    ap (λ m. bit_and word m == m) single ∙ contains_bit word (length_in 32 mask - 1)
    ∙ ap (λ m. has_flag m word) (sym single)

-- ---- setting the bit

or_bit : (n k : ℕ) → bit_or n (2 ^ k) ≡ with_flag (2 ^ k) n
or_bit n k =
    let sum : bit_or n (2 ^ k) + bit_at n k * 2 ^ k ≡ n + 2 ^ k =
    ap (λ x. bit_or n (2 ^ k) + x) (sym (and_pow n k)) ∙ or_add_and n (2 ^ k) in
    elim (cases_Bool (has_flag (2 ^ k) n)) as (λ _. bit_or n (2 ^ k) ≡ with_flag (2 ^ k) n) [
      | inl t ↦
          let one : bit_at n k ≡ 1 = eqb-true (bit_at n k) 1 t in
          let whole : bit_or n (2 ^ k) + 1 * 2 ^ k ≡ n + 2 ^ k =
          ap (λ d. bit_or n (2 ^ k) + d * 2 ^ k) (sym one) ∙ sum in
          let same : bit_or n (2 ^ k) ≡ n = omega arith in
          same ∙ sym (cond-true (has_flag (2 ^ k) n) n (n + 2 ^ k) t)
      | inr f ↦
          let none : bit_at n k ≡ 0 = let other = eqb-false (bit_at n k) 1 f in omega (arith, bit_at-lt n k) in
          let whole : bit_or n (2 ^ k) + 0 * 2 ^ k ≡ n + 2 ^ k =
          ap (λ d. bit_or n (2 ^ k) + d * 2 ^ k) (sym none) ∙ sum in
          let same : bit_or n (2 ^ k) ≡ n + 2 ^ k = omega arith in
          same ∙ sym (cond-false (has_flag (2 ^ k) n) n (n + 2 ^ k) f)
    ]

pub or_single : (word mask : ℕ) → IsSingle mask → bit_or word mask ≡ with_flag mask word
or_single word mask single =
    ap (bit_or word) single ∙ or_bit word (length_in 32 mask - 1) ∙ ap (λ m. with_flag m word) (sym single)

-- ---- clearing the bit

without_bit : (n k : ℕ) → n < 2 ^ 32 → 2 ^ k < 2 ^ 32 → without 32 n (2 ^ k) ≡ without_flag (2 ^ k) n
without_bit n k fits small =
    let parts : bit_and (2 ^ 32 - 1 - 2 ^ k) n + bit_and (2 ^ k) n ≡ n = and-not 32 (2 ^ k) n small fits in
    let turned : without 32 n (2 ^ k) ≡ bit_and (2 ^ 32 - 1 - 2 ^ k) n = and_comm n (2 ^ 32 - 1 - 2 ^ k) in
    let own : bit_and (2 ^ k) n ≡ bit_at n k * 2 ^ k = and_comm (2 ^ k) n ∙ and_pow n k in
    let sum : without 32 n (2 ^ k) + bit_at n k * 2 ^ k ≡ n = omega (arith, parts, turned, own) in
    elim (cases_Bool (has_flag (2 ^ k) n)) as (λ _. without 32 n (2 ^ k) ≡ without_flag (2 ^ k) n) [
      | inl t ↦
          let one : bit_at n k ≡ 1 = eqb-true (bit_at n k) 1 t in
          let whole : without 32 n (2 ^ k) + 1 * 2 ^ k ≡ n =
          ap (λ d. without 32 n (2 ^ k) + d * 2 ^ k) (sym one) ∙ sum in
          let same : without 32 n (2 ^ k) ≡ n - 2 ^ k = omega arith in
          same ∙ sym (cond-true (has_flag (2 ^ k) n) (n - 2 ^ k) n t)
      | inr f ↦
          let none : bit_at n k ≡ 0 = let other = eqb-false (bit_at n k) 1 f in omega (arith, bit_at-lt n k) in
          let whole : without 32 n (2 ^ k) + 0 * 2 ^ k ≡ n =
          ap (λ d. without 32 n (2 ^ k) + d * 2 ^ k) (sym none) ∙ sum in
          let same : without 32 n (2 ^ k) ≡ n = omega arith in
          same ∙ sym (cond-false (has_flag (2 ^ k) n) (n - 2 ^ k) n f)
    ]

pub without_single : (word mask : ℕ) → word < 2 ^ 32 → mask < 2 ^ 32 → IsSingle mask
    → without 32 word mask ≡ without_flag mask word
without_single word mask fits small single =
    ap (without 32 word) single
    ∙ without_bit word (length_in 32 mask - 1) fits (subst (λ m. m < 2 ^ 32) single small)
    ∙ ap (λ m. without_flag m word) (sym single)
