-- Lemmas about 32-bit words.
use Rattle.std.proofs.Common.{◌≡◌, ℕ, ◌+◌, ◌*◌, ◌/◌, ◌%◌, ◌<◌, ◌^◌, inl, inr, arith}
use Rattle.register_laws.specs.Prelude.{bit_cleared, bit_set, bumped, has_bit}
use Rattle.register_laws.proofs.Prelude.{cases_Bool, eqb-false, nat_tests}

pub bumped-lt : (w : ℕ) → w < 2 ^ 32 → bumped w < 2 ^ 32
bumped-lt w small = grind (arith, nat_tests)

pub answer-lt : (w word : ℕ) → word < 2 ^ 16 → w / 4 % 2 ^ 14 * 4 + 2 + word * 2 ^ 16 < 2 ^ 32
answer-lt w word small = omega arith

set_above : (w : ℕ) → w < 2 ^ 32 → (w / 2 ^ 25 % 2 ≡ 1 → ⊥) → w + 2 ^ 25 < 2 ^ 32
set_above w small unset = omega arith

pub bit_set-lt : (w : ℕ) → w < 2 ^ 32 → bit_set 25 w < 2 ^ 32
bit_set-lt w small =
    elim (cases_Bool (has_bit 25 w)) as (λ _. bit_set 25 w < 2 ^ 32) [
      | inl t ↦ rw t small
      | inr f ↦ rw f (set_above w small (eqb-false _ _ f))
    ]

pub bit_cleared-lt : (w : ℕ) → w < 2 ^ 32 → bit_cleared 25 w < 2 ^ 32
bit_cleared-lt w small =
    elim (cases_Bool (has_bit 25 w)) as (λ _. bit_cleared 25 w < 2 ^ 32) [
      | inl t ↦ rw t (omega arith)
      | inr f ↦ rw f small
    ]
