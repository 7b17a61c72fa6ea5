-- The machine's operations on words are the operations on sets of bits.
use Rattle.std.proofs.Common.{◌≡◌, ℕ, suc, ◌-◌, ◌*◌, ◌^◌, ◌%◌, ◌/◌, ◌<◌, ◌≤◌, not, ◌&&◌, ◌||◌, eqb}
use Rattle.std.proofs.Common.{sym, ap, ◌∙◌, bit_and, bit_or, max, min, inl, inr, arith}
use Rattle.std.specs.Prelude.{Some, None}
use Rattle.std.specs.Int.{bit_at, bit_not, trailing_zeros}
use mir.Syntax.{w32}
use Rattle.std.proofs.Math.Nat.{two-pow-succ, pow-le-pow_right, one-le-pow, one-mul, mod-eq_of_lt}
use Rattle.std.proofs.lemmas.Nat.Bits.{bit_at-lt, bit_at_and, bit_at_or, bit_at_not, bit_at-pow_same}
use Rattle.std.proofs.lemmas.Nat.Bits.{bit_at-pow_other, bit_at-trailing_zeros, bit_at-zero, shr_and_one}
use Rattle.std.proofs.lemmas.Nat.{or_lt, and_le_l}
use Rattle.std.proofs.lemmas.Bool.Decides.{nat_tests, eqb_tells}
use Rattle.intr_unit.specs.BitSet.{contains, union, intersection, difference, only, lowest_of}
use Rattle.intr_unit.proofs.SetLaws.{same_bits, bits_where-lt, contains-union, contains-intersection}
use Rattle.intr_unit.proofs.SetLaws.{contains-difference, contains-only}
use Rattle.intr_unit.proofs.Finding.{find-first, find-none}

or_digits : (x y : ℕ) → x < 2 → y < 2 → eqb (max x y) 1 ≡ (eqb x 1 || eqb y 1)
or_digits x y p q = grind (arith, nat_tests)

and_digits : (x y : ℕ) → x < 2 → y < 2 → eqb (min x y) 1 ≡ (eqb x 1 && eqb y 1)
and_digits x y p q = grind (arith, nat_tests)

not_digit : (x : ℕ) → x < 2 → eqb (1 - x) 1 ≡ not (eqb x 1)
not_digit x p = grind (arith, nat_tests)

contains-bit_or : (a b k : ℕ) → contains (bit_or a b) k ≡ (contains a k || contains b k)
unfolding contains
contains-bit_or a b k =
    ap (λ d. eqb d 1) (bit_at_or a b k)
    ∙ or_digits (bit_at a k) (bit_at b k) (bit_at-lt a k) (bit_at-lt b k)

contains-bit_and : (a b k : ℕ) → contains (bit_and a b) k ≡ (contains a k && contains b k)
unfolding contains
contains-bit_and a b k =
    ap (λ d. eqb d 1) (bit_at_and a b k)
    ∙ and_digits (bit_at a k) (bit_at b k) (bit_at-lt a k) (bit_at-lt b k)

contains-bit_not : (a k : ℕ) → a < 2 ^ 32 → k < 32 → contains (bit_not w32 a) k ≡ not (contains a k)
unfolding contains
contains-bit_not a k p h = ap (λ d. eqb d 1) (bit_at_not w32 a k p h) ∙ not_digit (bit_at a k) (bit_at-lt a k)

contains-pow : (k j : ℕ) → contains (2 ^ k) j ≡ eqb j k
unfolding contains
contains-pow k j =
    elim (eqb_tells j k) [
      | inl same ↦ rw (same.0, same.1) (ap (λ d. eqb d 1) (bit_at-pow_same k))
      | inr other ↦ rw other.0 (ap (λ d. eqb d 1) (bit_at-pow_other k j other.1))
    ]

pub test-is : (word k : ℕ) → eqb (bit_and (word / 2 ^ k) 1) 1 ≡ contains word k
unfolding contains
test-is word k = ap (λ d. eqb d 1) (shr_and_one word k)

-- The word that each machine operation computes is the set that the matching set operation returns.
pub bit_or-is : (a b : ℕ) → a < 2 ^ 32 → b < 2 ^ 32 → bit_or a b ≡ union a b
unfolding union
bit_or-is a b p q =
    same_bits (bit_or a b) (union a b) (or_lt 32 a b p q) (bits_where-lt _)
    (λ k h. contains-bit_or a b k ∙ sym (contains-union a b k h))

pub bit_and-is : (a b : ℕ) → a < 2 ^ 32 → b < 2 ^ 32 → bit_and a b ≡ intersection a b
unfolding intersection
bit_and-is a b p q =
    same_bits (bit_and a b) (intersection a b) (omega (arith, and_le_l a b)) (bits_where-lt _)
    (λ k h. contains-bit_and a b k ∙ sym (contains-intersection a b k h))

pub bit_and_not-is : (a b : ℕ) → a < 2 ^ 32 → b < 2 ^ 32 → bit_and a (2 ^ 32 - 1 - b) ≡ difference a b
unfolding difference
bit_and_not-is a b p q =
    let others = bit_not w32 b in
    same_bits (bit_and a others) (difference a b) (omega (arith, and_le_l a others)) (bits_where-lt _)
    (λ k h.
    contains-bit_and a others k
    ∙ ap (λ t. contains a k && t) (contains-bit_not b k q h)
    ∙ sym (contains-difference a b k h))

pow_below : (bit : ℕ) → bit < 32 → 2 ^ bit < 2 ^ 32
pow_below bit h =
    let whole : 2 ^ suc bit ≤ 2 ^ 32 =
    pow-le-pow_right {n = 2} (omega arith) {i = suc bit} {j = 32} (omega arith) in
    let some : 1 ≤ 2 ^ bit = one-le-pow bit 2 (omega arith) in
    omega (arith, two-pow-succ bit)

pub pow-is : (bit : ℕ) → bit < 32 → 1 * 2 ^ bit % 2 ^ 32 ≡ only bit
unfolding only
pow-is bit h =
    let small : 2 ^ bit < 2 ^ 32 = pow_below bit h in
    let same : 1 * 2 ^ bit % 2 ^ 32 ≡ 2 ^ bit = ap (λ n. n % 2 ^ 32) (one-mul (2 ^ bit)) ∙ mod-eq_of_lt small in
    same
    ∙ same_bits (2 ^ bit) (only bit) small (bits_where-lt _)
    (λ k h. contains-pow bit k ∙ sym (contains-only bit k h))

pub trailing_zeros-is : (set : ℕ) → 0 < set → set < 2 ^ 32 → Some (trailing_zeros w32 set) ≡ lowest_of set
unfolding lowest_of contains
trailing_zeros-is set some small =
    let at = bit_at-trailing_zeros w32 set some small in
    sym (find-first (contains set) 32 0 (trailing_zeros w32 set) (omega arith) (omega (arith, at.0))
    (ap (λ d. eqb d 1) at.1) (λ i h. ap (λ d. eqb d 1) (at.2 i h)))

pub no-lowest : (set : ℕ) → set ≡ 0 → None ≡ lowest_of set
unfolding lowest_of contains
no-lowest set empty =
    sym (find-none (contains set) 32 0
    (λ i _. ap (λ n. eqb (bit_at n i) 1) empty ∙ ap (λ d. eqb d 1) (bit_at-zero i)))

-- The rules for set operations.
pub ruleset word_operations = (
  bit_or-is,
  bit_and-is,
  bit_and_not-is,
  test-is,
  pow-is,
  no-lowest,
  trailing_zeros-is,
)
