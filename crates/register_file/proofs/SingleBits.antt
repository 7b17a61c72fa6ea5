-- Single bits of words, as the machine's operations set them.
use Rattle.std.proofs.Common.{◌≡◌, ℕ, ◌+◌, ◌*◌, ◌^◌, ap, sym, ◌∙◌, inl, inr, arith}
use Rattle.std.specs.Int.{bit_at}
use Rattle.std.specs.Int.Bits.{or_add_and}
use Rattle.std.specs.Prelude.{bit_or}
use Rattle.std.proofs.lemmas.Bool.{cases_Bool, cond-true, cond-false, eqb-true, eqb-false}
use Rattle.std.proofs.lemmas.Nat.Bits.{and_pow, bit_at-lt}
use Rattle.register_file.specs.Bits.{has_bit, bit_set}

-- Or-ing a power of 2 into a word sets that bit.
pub or_pow : (n k : ℕ) → bit_or n (2 ^ k) ≡ bit_set k n
or_pow n k =
    let sum : bit_or n (2 ^ k) + bit_at n k * 2 ^ k ≡ n + 2 ^ k =
    ap (λ x. bit_or n (2 ^ k) + x) (sym (and_pow n k)) ∙ or_add_and n (2 ^ k) in
    elim (cases_Bool (has_bit k n)) as (λ _. bit_or n (2 ^ k) ≡ bit_set k n) [
      | inl t ↦
          let one : bit_at n k ≡ 1 = eqb-true (bit_at n k) 1 t in
          let whole : bit_or n (2 ^ k) + 1 * 2 ^ k ≡ n + 2 ^ k =
          ap (λ d. bit_or n (2 ^ k) + d * 2 ^ k) (sym one) ∙ sum in
          let same : bit_or n (2 ^ k) ≡ n = omega arith in
          same ∙ sym (cond-true (has_bit k n) n (n + 2 ^ k) t)
      | inr f ↦
          let none : bit_at n k ≡ 0 = let other = eqb-false (bit_at n k) 1 f in omega (arith, bit_at-lt n k) in
          let whole : bit_or n (2 ^ k) + 0 * 2 ^ k ≡ n + 2 ^ k =
          ap (λ d. bit_or n (2 ^ k) + d * 2 ^ k) (sym none) ∙ sum in
          let same : bit_or n (2 ^ k) ≡ n + 2 ^ k = omega arith in
          same ∙ sym (cond-false (has_bit k n) n (n + 2 ^ k) f)
    ]
