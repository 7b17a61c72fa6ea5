-- Single bits of words cut by a view, and of merged words.
use Rattle.std.proofs.Common.{◌≡◌, ℕ, ◌-◌, ◌^◌, ◌<◌, Bool, true, false, ◌&&◌, if◌then◌else◌, ap, ◌∙◌, arith, ◌==◌}
use Rattle.std.specs.Prelude.{bit_and, min, max}
use Rattle.std.specs.Int.{bit_at, w32}
use Rattle.std.proofs.lemmas.Bool.Decides.{nat_tests}
use Rattle.std.proofs.lemmas.Nat.Bits.{bit_at_and, bit_at_or, bit_at_not, bit_at_ones, bit_at-lt}
use Rattle.datasheet_laws.specs.Prelude.{has_bit, merged}

pub and_true : (x : Bool) → (x && true) ≡ x
and_true x = grind arith

pub and_false : (x : Bool) → (x && false) ≡ false
and_false x = grind arith

both_one : (x y : ℕ) → x < 2 → y < 2 → (min x y == 1) ≡ ((x == 1) && (y == 1))
both_one x y p q = grind (arith, nat_tests)

-- A bit of a word cut by a view.
pub has_bit-and : (word view bit : ℕ) → has_bit bit (bit_and word view) ≡ (has_bit bit word && has_bit bit view)
has_bit-and word view bit =
    ap (λ n. n == 1) (bit_at_and word view bit)
    ∙ both_one (bit_at word bit) (bit_at view bit) (bit_at-lt word bit) (bit_at-lt view bit)

pub has_bit-all : (bit : ℕ) → bit < 32 → has_bit bit 0xFFFFFFFF ≡ true
has_bit-all bit h = ap (λ n. n == 1) (bit_at_ones 32 bit h)

pub has_bit-whole : (word bit : ℕ) → bit < 32 → has_bit bit (bit_and word 0xFFFFFFFF) ≡ has_bit bit word
has_bit-whole word bit h =
    has_bit-and word 0xFFFFFFFF bit ∙ ap (λ b. has_bit bit word && b) (has_bit-all bit h) ∙ and_true (has_bit bit word)

chosen : (m old new : ℕ) → m < 2 → old < 2 → new < 2
    → (max (min old (1 - m)) (min new m) == 1) ≡ (if m == 1 then new == 1 else old == 1)
chosen m old new a b c = grind (arith, nat_tests)

-- A bit of a merged word is the new one if the mask contains it.
pub has_bit-merged : (bit mask old new : ℕ) → bit < 32 → mask < 2 ^ 32
    → has_bit bit (merged mask old new) ≡ (if has_bit bit mask then has_bit bit new else has_bit bit old)
has_bit-merged bit mask old new b small =
    ap (λ n. n == 1) (
    bit_at_or (bit_and old (0xFFFFFFFF - mask)) (bit_and new mask) bit
    ∙ ap (λ n. max n (bit_at (bit_and new mask) bit)) (bit_at_and old (0xFFFFFFFF - mask) bit
    ∙ ap (λ n. min (bit_at old bit) n) (bit_at_not w32 mask bit small b))
    ∙ ap (λ n. max (min (bit_at old bit) (1 - bit_at mask bit)) n) (bit_at_and new mask bit)
    )
    ∙ chosen (bit_at mask bit) (bit_at old bit) (bit_at new bit) (bit_at-lt mask bit) (bit_at-lt old bit)
    (bit_at-lt new bit)
