-- Lemmas about bits as numbers and bits as tests.
use Rattle.std.proofs.Common.{◌≡◌, ℕ, true, false, arith}
use Rattle.std.proofs.lemmas.Bool.{eq-eqb, ne_eqb, eqb-true, eqb-false}
use Rattle.datasheet_laws.specs.FramePrelude.{has_bit}
use Rattle.datasheet_laws.specs.Bits.{bit}

pub has-one : (n word : ℕ) → bit n word ≡ 1 → has_bit n word ≡ true
has-one n word e = eq-eqb (bit n word) 1 e

pub has-zero : (n word : ℕ) → bit n word ≡ 0 → has_bit n word ≡ false
has-zero n word e = ne_eqb (bit n word) 1 (λ is. omega arith)

pub one-has : (n word : ℕ) → has_bit n word ≡ true → bit n word ≡ 1
one-has n word e = eqb-true (bit n word) 1 e

pub zero-has : (n word : ℕ) → has_bit n word ≡ false → bit n word ≡ 0
zero-has n word e =
    let other : bit n word ≡ 1 → ⊥ = eqb-false (bit n word) 1 e in
    omega arith
