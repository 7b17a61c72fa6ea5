-- Lemmas about which bits of a mailbox's word the two sides change.
use Rattle.std.proofs.Common.{◌≡◌, ◌≢◌, ℕ, ◌+◌, ◌-◌, ◌/◌, ◌%◌, ◌^◌, ◌<◌, ◌≤◌, Bool, true, false, cond, ◌==◌, ◌||◌, refl, ap, sym, ◌∙◌, subst, inl, inr, arith}
use Rattle.std.specs.Prelude.{bit_or, max}
use Rattle.std.proofs.Math.Nat.{div-eq_of_lt}
use Rattle.std.proofs.lemmas.Bool.{cases_Bool, cases_lt, cond-true, cond-false, both_ways, eq-eqb, eqb-true, or_left, or_right}
use Rattle.std.proofs.lemmas.Nat.Bits.{bit_at_or, bit_at-lt, bit_at-zero, bit_at-pow_other}
use Rattle.std.proofs.Math.Pow.{pow-lt}
use Rattle.register_file.specs.Mailbox.{set_if, function_wrote, released, taken, physical_wrote, reported_once, reset_reported, requests}
use Rattle.register_file.proofs.SingleBits.{or_pow}
use Rattle.register_laws.specs.Prelude.{IsSubset, bit_at, bit_cleared, bit_set, contains, has_bit}
use Rattle.register_laws.proofs.Prelude.{nat_tests, or_lt}
use Rattle.register_laws.proofs.Bits.{has_bit-clear}

-- The bits of two words joined, of 0, and of a power of 2.
or_digits : (a b : ℕ) → a < 2 → b < 2 → (max a b == 1) ≡ ((a == 1) || (b == 1))
or_digits a b p q = grind (arith, nat_tests)

pub has_bit-or : (bit a b : ℕ) → has_bit bit (bit_or a b) ≡ (has_bit bit a || has_bit bit b)
has_bit-or bit a b =
    ap (λ n. n == 1) (bit_at_or a b bit) ∙ or_digits (bit_at a bit) (bit_at b bit) (bit_at-lt a bit) (bit_at-lt b bit)

pub has_bit-zero : (bit : ℕ) → has_bit bit 0 ≡ false
has_bit-zero bit = ap (λ n. n == 1) (bit_at-zero bit)

pub has_bit-pow_other : (n bit : ℕ) → bit ≢ n → has_bit bit (2 ^ n) ≡ false
has_bit-pow_other n bit other = ap (λ d. d == 1) (bit_at-pow_other n bit other)

or_none : (a b : Bool) → b ≡ false → (a || b) ≡ a
or_none true b none = refl
or_none false b none = none

-- Setting or clearing a bit leaves every other bit unchanged.
pub has_bit-set_other : (n bit word : ℕ) → bit ≢ n → has_bit bit (bit_set n word) ≡ has_bit bit word
has_bit-set_other n bit word other =
    ap (has_bit bit) (sym (or_pow word n)) ∙ has_bit-or bit word (2 ^ n)
    ∙ or_none (has_bit bit word) _ (has_bit-pow_other n bit other)

at_least : (w n : ℕ) → w / n % 2 ≡ 1 → n ≤ w
at_least w n is = elim (cases_lt w n) [
  | inl low ↦ let none = div-eq_of_lt low in absurd (omega arith)
  | inr high ↦ high
]

pub has_bit-clear_other : (n bit word : ℕ) → bit ≢ n → has_bit bit (bit_cleared n word) ≡ has_bit bit word
has_bit-clear_other n bit word other =
    elim (cases_Bool (has_bit n word)) as (λ _. has_bit bit (bit_cleared n word) ≡ has_bit bit word) [
      | inr f ↦ ap (has_bit bit) (cond-false (has_bit n word) (word - 2 ^ n) word f)
      | inl t ↦
          let cleared : bit_cleared n word ≡ word - 2 ^ n = cond-true (has_bit n word) (word - 2 ^ n) word t in
          let low : 2 ^ n ≤ word = at_least word (2 ^ n) (eqb-true _ _ t) in
          let whole : word - 2 ^ n + 2 ^ n ≡ word = omega arith in
          let back : bit_set n (bit_cleared n word) ≡ word =
          cond-false _ _ _ (has_bit-clear n word) ∙ ap (λ u. u + 2 ^ n) cleared ∙ whole in
          sym (has_bit-set_other n bit (bit_cleared n word) other) ∙ ap (has_bit bit) back
    ]

-- The new word keeps all bits of the old word that don't pass the test.
abbrev pub KeepsOut : (ℕ → Bool) → (old new : ℕ) → Type 0
KeepsOut has old new = (bit : ℕ) → has bit ≡ false → has_bit bit new ≡ has_bit bit old

pub out-refl : (has : ℕ → Bool) (word : ℕ) → KeepsOut has word word
out-refl has word bit off = refl

out-trans : (has : ℕ → Bool) (old mid new : ℕ) → KeepsOut has old mid → KeepsOut has mid new → KeepsOut has old new
out-trans has old mid new first then bit off = then bit off ∙ first bit off

out-if : (has : ℕ → Bool) (b : Bool) (old x y : ℕ) → KeepsOut has old x → KeepsOut has old y
    → KeepsOut has old (cond b x y)
out-if has true old x y on off = on
out-if has false old x y on off = off

apart_from : (has : ℕ → Bool) (n bit : ℕ) → has n ≡ true → has bit ≡ false → bit ≢ n
apart_from has n bit on off same = both_ways (has n) (sym (ap has same) ∙ off) on

out-set : (has : ℕ → Bool) (n word : ℕ) → has n ≡ true → KeepsOut has word (bit_set n word)
out-set has n word on bit off = has_bit-set_other n bit word (apart_from has n bit on off)

out-clear : (has : ℕ → Bool) (n word : ℕ) → has n ≡ true → KeepsOut has word (bit_cleared n word)
out-clear has n word on bit off = has_bit-clear_other n bit word (apart_from has n bit on off)

out-set_if : (has : ℕ → Bool) (b : Bool) (n word : ℕ) → has n ≡ true → KeepsOut has word (set_if b n word)
out-set_if has b n word on = out-if has b word (bit_set n word) word (out-set has n word on) (out-refl has word)

pub out-pow : (n : ℕ) → KeepsOut (λ bit. bit == n) 0 (2 ^ n)
out-pow n bit off =
    has_bit-pow_other n bit (λ same. both_ways (bit == n) off (eq-eqb bit n same)) ∙ sym (has_bit-zero bit)

-- Joining bits that pass the test keeps all other bits.
pub out-or : (has : ℕ → Bool) (old more : ℕ) → KeepsOut has 0 more → KeepsOut has old (bit_or old more)
out-or has old more none bit off =
    has_bit-or bit old more ∙ or_none (has_bit bit old) _ (none bit off ∙ has_bit-zero bit)

-- A word within a set stays within it, if the set has the bits that pass the test.
pub out-within : (has : ℕ → Bool) (old new bits : ℕ) → KeepsOut has old new
    → ((bit : ℕ) → has bit ≡ true → has_bit bit bits ≡ true) → IsSubset old bits → IsSubset new bits
unfolding contains
out-within has old new bits keeps own within = record {
  member = λ bit h. elim (cases_Bool (has bit)) as (λ _. contains bits bit ≡ true) [
    | inl on ↦ own bit on
    | inr off ↦ within.member bit (sym (keeps bit off) ∙ h)
  ];
}

-- The bits of each side.
abbrev pub is_vfu : ℕ → Bool
is_vfu bit = bit == 2

abbrev pub is_physical : ℕ → Bool
is_physical bit = bit == 2 || bit == 3 || bit == 4 || bit == 5

abbrev pub is_once : ℕ → Bool
is_once bit = bit == 4 || bit == 5 || bit == 7

abbrev pub is_reset_bit : ℕ → Bool
is_reset_bit bit = bit == 6 || bit == 7

pub function_keeps : (mail word : ℕ) → KeepsOut is_vfu mail (function_wrote mail word)
function_keeps mail word =
    out-if is_vfu (has_bit 2 word) mail _ _
    (out-if is_vfu (has_bit 3 mail) mail mail _ (out-refl is_vfu mail) (out-set is_vfu 2 mail refl))
    (out-clear is_vfu 2 mail refl)

released_keeps : (mail word : ℕ) → KeepsOut is_physical mail (released mail word)
released_keeps mail word =
    out-if is_physical (has_bit 4 word) mail _ _ (out-clear is_physical 2 mail refl) (out-refl is_physical mail)

taken_keeps : (mail word : ℕ) → KeepsOut is_physical mail (taken mail word)
taken_keeps mail word =
    out-if is_physical (has_bit 3 word) mail _ _
    (out-if is_physical (has_bit 2 mail) mail mail _ (out-refl is_physical mail) (out-set is_physical 3 mail refl))
    (out-clear is_physical 3 mail refl)

pub physical_keeps : (mail word : ℕ) → KeepsOut is_physical mail (physical_wrote mail word)
physical_keeps mail word =
    let held = taken (released mail word) word in
    let reported = set_if (has_bit 1 word) 5 held in
    out-trans is_physical mail reported _
    (out-trans is_physical mail held reported
    (out-trans is_physical mail (released mail word) held (released_keeps mail word)
    (taken_keeps (released mail word) word))
    (out-set_if is_physical (has_bit 1 word) 5 held refl))
    (out-set_if is_physical (has_bit 0 word) 4 reported refl)

pub once_keeps : (mail : ℕ) → KeepsOut is_once mail (reported_once mail)
once_keeps mail =
    let done = bit_cleared 7 mail in
    let seen = bit_cleared 5 done in
    out-trans is_once mail seen _
    (out-trans is_once mail done seen (out-clear is_once 7 mail refl) (out-clear is_once 5 done refl))
    (out-clear is_once 4 seen refl)

pub reset_keeps : (mail : ℕ) → KeepsOut is_reset_bit mail (reset_reported mail)
reset_keeps mail =
    let begun = bit_cleared 6 mail in
    out-if is_reset_bit (has_bit 6 mail) mail _ _
    (out-trans is_reset_bit mail begun _ (out-clear is_reset_bit 6 mail refl) (out-set is_reset_bit 7 begun refl))
    (out-refl is_reset_bit mail)

-- A function's requests.
abbrev pub is_asked : (v : ℕ) → ℕ → Bool
is_asked v bit = bit == v % 16 || bit == 16 + v % 16

pub requests_keep : (v word : ℕ) → KeepsOut (is_asked v) 0 (requests v word)
requests_keep v word =
    let has = is_asked v in
    let acknowledged = set_if (has_bit 1 word) (16 + v % 16) 0 in
    out-trans has 0 acknowledged _
    (out-set_if has (has_bit 1 word) (16 + v % 16) 0
    (or_right (16 + v % 16 == v % 16) _ (eq-eqb (16 + v % 16) (16 + v % 16) refl)))
    (out-set_if has (has_bit 0 word) (v % 16) acknowledged
    (or_left _ (v % 16 == 16 + v % 16) (eq-eqb (v % 16) (v % 16) refl)))

-- 32-bit words.
set-lt : (n word : ℕ) → n < 32 → word < 2 ^ 32 → bit_set n word < 2 ^ 32
set-lt n word low small = subst (λ w. w < 2 ^ 32) (or_pow word n) (or_lt 32 word (2 ^ n) small (pow-lt low))

set_if-lt : (b : Bool) (n word : ℕ) → n < 32 → word < 2 ^ 32 → set_if b n word < 2 ^ 32
set_if-lt true n word low small = set-lt n word low small
set_if-lt false n word low small = small

pub requests-lt : (v word : ℕ) → requests v word < 2 ^ 32
requests-lt v word =
    set_if-lt (has_bit 0 word) (v % 16) _ (omega arith)
    (set_if-lt (has_bit 1 word) (16 + v % 16) 0 (omega arith) (omega arith))
