-- Lemmas about testing one bit of a register with a mask.
use Rattle.std.proofs.Common.{◌≡◌, ℕ, zero, suc, ◌*◌, ◌^◌, ◌<◌, ◌==◌, bit_and, ap, ◌∙◌, arith}
use Rattle.std.specs.Int.{bit_at}
use Rattle.std.proofs.lemmas.Nat.{pow_pos}
use Rattle.std.proofs.lemmas.Nat.Bits.{and_pow, bit_at-lt}
use Rattle.std.proofs.lemmas.Bool.Decides.{nat_tests}

times-eq : (bit n : ℕ) → bit < 2 → 0 < n → (bit * n == n) ≡ (bit == 1)
times-eq zero n small positive = grind (arith, nat_tests)
times-eq (suc zero) n small positive = grind (arith, nat_tests)
times-eq (suc (suc bit)) n small positive = absurd (omega arith)

-- A register contains a single-bit mask if and only if that bit is 1.
pub contains_bit : (word k : ℕ) → (bit_and word (2 ^ k) == 2 ^ k) ≡ (bit_at word k == 1)
contains_bit word k = ap (λ n. n == 2 ^ k) (and_pow word k)
    ∙ times-eq (bit_at word k) (2 ^ k) (bit_at-lt word k) (pow_pos k)
