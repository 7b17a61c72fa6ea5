-- Lemmas about what the results of set operations contain.
use Rattle.std.proofs.Common.{◌≡◌, ℕ, suc, zero, ◌+◌, ◌-◌, ◌*◌, ◌^◌, ◌<◌, ◌≤◌, Bool, true, false, not, ◌&&◌, ◌||◌}
use Rattle.std.proofs.Common.{eqb, leb, refl, sym, ap, ◌∙◌, subst, inl, inr, arith}
use Rattle.std.specs.Prelude.{if◌then◌else◌}
use Rattle.std.specs.Int.{bit_at}
use Rattle.std.proofs.Math.Nat.{two-pow-succ}
use Rattle.std.proofs.lemmas.Nat.Bits.{bit_at_cat_low, bit_at_cat_high, bit_at_above, bit_at-lt, same_from_bits_below}
use Rattle.std.proofs.lemmas.Nat.Bits.{bit_at-zero}
use Rattle.std.proofs.lemmas.Bool.{cases_lt, false≢true}
use Rattle.std.proofs.lemmas.Bool.Decides.{nat_tests}
use Rattle.intr_unit.specs.BitSet.{contains, bits_below, bits_where, union, intersection, difference, only}
use Rattle.intr_unit.specs.BitSet.{when, no_bits, bits_from_to}
use Rattle.intr_unit.specs.Laws.{SetsHoldTheirBits}

-- The result of a test as a digit, 0 or 1.
abbrev digit : Bool → ℕ
digit b = if b then 1 else 0

-- If a digit is put above a number of `n` bits, the result has `n + 1` bits.
digit_above-lt : (b : Bool) (n low : ℕ) → low < 2 ^ n → digit b * 2 ^ n + low < 2 ^ suc n
digit_above-lt true n low h = omega (arith, two-pow-succ n)
digit_above-lt false n low h = omega (arith, two-pow-succ n)

bit_at-digit : (b : Bool) → bit_at (digit b) 0 ≡ digit b
bit_at-digit true = refl
bit_at-digit false = refl

eqb-digit : (b : Bool) → eqb (digit b) 1 ≡ b
eqb-digit true = refl
eqb-digit false = refl

bit_at-digit_above : (b : Bool) (n low : ℕ) → low < 2 ^ n → bit_at (digit b * 2 ^ n + low) n ≡ digit b
bit_at-digit_above b n low h =
    let none : n - n ≡ 0 = omega arith in
    bit_at_cat_high (digit b) n low n h (omega arith) ∙ ap (bit_at (digit b)) none ∙ bit_at-digit b

pub bits_below-lt : (n : ℕ) (test : ℕ → Bool) → bits_below n test < 2 ^ n
unfolding bits_below
bits_below-lt zero test = omega arith
bits_below-lt (suc n) test = digit_above-lt (test n) n (bits_below n test) (bits_below-lt n test)

contains-above : (set n k : ℕ) → set < 2 ^ n → n ≤ k → contains set k ≡ false
unfolding contains
contains-above set n k h le = ap (λ d. eqb d 1) (bit_at_above set n k h le)

contains-bits_below : (n : ℕ) (test : ℕ → Bool) (k : ℕ) → k < n → contains (bits_below n test) k ≡ test k
unfolding bits_below contains
contains-bits_below zero test k h = absurd (omega arith)
contains-bits_below (suc n) test k h =
    let rest = bits_below n test in
    elim (cases_lt k n) [
      | inl lt ↦
          ap (λ d. eqb d 1) (bit_at_cat_low (digit (test n)) n rest k lt)
          ∙ contains-bits_below n test k lt
      | inr ge ↦ let e : n ≡ k = omega arith in
          subst (λ (j : ℕ). eqb (bit_at (digit (test n) * 2 ^ n + rest) j) 1 ≡ test j) e
          (ap (λ d. eqb d 1) (bit_at-digit_above (test n) n rest (bits_below-lt n test)) ∙ eqb-digit (test n))
    ]

-- A set that is defined by a test contains a bit below 32 if and only if the bit passes the test.
pub contains-bits_where : (test : ℕ → Bool) (k : ℕ) → k < 32 → contains (bits_where test) k ≡ test k
unfolding bits_where
contains-bits_where test k h = contains-bits_below 32 test k h

pub bits_where-lt : (test : ℕ → Bool) → bits_where test < 2 ^ 32
unfolding bits_where
bits_where-lt test = bits_below-lt 32 test

pub contains-past : (set k : ℕ) → set < 2 ^ 32 → 32 ≤ k → contains set k ≡ false
contains-past set k h le = contains-above set 32 k h le

-- A member of a set defined by a test passes the test.
pub passes : (test : ℕ → Bool) (k : ℕ) → contains (bits_where test) k ≡ true → test k ≡ true
passes test k h =
    elim (cases_lt k 32) [
      | inl lt ↦ sym (contains-bits_where test k lt) ∙ h
      | inr ge ↦ absurd (false≢true (sym (contains-past (bits_where test) k (bits_where-lt test) ge) ∙ h))
    ]

digits : (a b : ℕ) → a < 2 → b < 2 → eqb a 1 ≡ eqb b 1 → a ≡ b
digits a b p q e = grind (arith, nat_tests)

-- Two words with the same bits are equal.
pub same_bits : (a b : ℕ) → a < 2 ^ 32 → b < 2 ^ 32 →
    ((k : ℕ) → k < 32 → contains a k ≡ contains b k) → a ≡ b
unfolding contains
same_bits a b p q each =
    same_from_bits_below 32 a b p q (λ k h. digits (bit_at a k) (bit_at b k) (bit_at-lt a k) (bit_at-lt b k) (each k h))

pub contains-union : (left right k : ℕ) → k < 32 →
    contains (union left right) k ≡ (contains left k || contains right k)
unfolding union
contains-union left right k h = contains-bits_where (λ bit. contains left bit || contains right bit) k h

pub contains-intersection : (left right k : ℕ) → k < 32 →
    contains (intersection left right) k ≡ (contains left k && contains right k)
unfolding intersection
contains-intersection left right k h = contains-bits_where (λ bit. contains left bit && contains right bit) k h

pub contains-difference : (left right k : ℕ) → k < 32 →
    contains (difference left right) k ≡ (contains left k && not (contains right k))
unfolding difference
contains-difference left right k h = contains-bits_where (λ bit. contains left bit && not (contains right bit)) k h

pub contains-only : (chosen k : ℕ) → k < 32 → contains (only chosen) k ≡ eqb k chosen
unfolding only
contains-only chosen k h = contains-bits_where (λ bit. eqb bit chosen) k h

pub contains-bits_from_to : (high low k : ℕ) → k < 32 →
    contains (bits_from_to high low) k ≡ (leb low k && leb k high)
unfolding bits_from_to
contains-bits_from_to high low k h = contains-bits_where (λ bit. leb low bit && leb bit high) k h

pub contains-no_bits : (k : ℕ) → contains no_bits k ≡ false
unfolding contains
contains-no_bits k = ap (λ d. eqb d 1) (bit_at-zero k)

pub contains-when : (condition : Bool) (set k : ℕ) → contains (when condition set) k ≡ (condition && contains set k)
unfolding when
contains-when true set k = refl
contains-when false set k = contains-no_bits k

-- The given bits that are in the auto-mask, if the auto-mask acts.
pub contains-acting : (acts : Bool) (bits mask k : ℕ) → k < 32 →
    contains (when acts (intersection bits mask)) k ≡ (acts && contains bits k && contains mask k)
unfolding when
contains-acting true bits mask k h = contains-intersection bits mask k h
contains-acting false bits mask k h = contains-no_bits k

pub sets_hold : SetsHoldTheirBits
sets_hold = record { member = contains-bits_where; same = same_bits }
