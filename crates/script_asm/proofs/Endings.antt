-- Proves that `strip_suffix` with a single byte returns what `before_last_byte` defines.
use Rattle.std.proofs.Common.{refl, sym, ◌∙◌, ap, ◌≡◌, ◌≢◌, ◌<◌, ℕ, ◌+◌, ◌-◌, List, [], ◌∷◌, ◌++◌, length, take, slice_index, get_or, Option, Some, None, MatchOption, Bor, inl, inr, nat_lt, true, length-append, eq-eqb, arith}
use Rattle.std.specs.Option.{option_copied}
use Rattle.std.proofs.lemmas.List.{take_more}
use Rattle.std.proofs.Math.Seq.{get_or-append_seam, take-append_seam, take-length}
use Rattle.std.proofs.lemmas.Bool.{cases_lt, le-ltb, lt-ltb}
use Rattle.script_asm.proofs.Prelude.{eqb_tells}
use Rattle.script_asm.specs.Target.{before_last_byte}

length_ended : (byte : ℕ) (front : List ℕ) → length (front ++ byte ∷ []) - 1 ≡ length front
length_ended byte front = simp length-append (omega arith)

long_ended : (byte : ℕ) (front : List ℕ) → nat_lt 0 (length (front ++ byte ∷ [])) ≡ true
long_ended byte front = simp length-append (lt-ltb 0 (length front + 1) (omega arith))

pub before_last_byte-ended : (byte : ℕ) (front : List ℕ) → before_last_byte byte (front ++ byte ∷ []) ≡ Some front
before_last_byte-ended byte front =
    rw (length_ended, get_or-append_seam, take-append_seam, long_ended, eq-eqb byte byte refl) refl

ended : (byte : ℕ) (word : List ℕ) → slice_index word (length word - 1) ≡ byte → 0 < length word
    → word ≡ take (length word - 1) word ++ byte ∷ []
ended byte [] last long = absurd (omega arith)
ended byte (b ∷ more) last long =
    let whole : (n : ℕ) → n ≡ length (b ∷ more) - 1 → b ∷ more ≡ take n (b ∷ more) ++ get_or (b ∷ more) n 0 ∷ [] =
    λ n is.
    let inside : n < length (b ∷ more) = omega arith in
    let all : n + 1 ≡ length (b ∷ more) = omega arith in
    sym (take-length (b ∷ more)) ∙ ap (λ k. take k (b ∷ more)) (sym all) ∙ take_more (b ∷ more) n 0 inside in
    whole (length (b ∷ more) - 1) refl ∙ ap (λ x. take (length (b ∷ more) - 1) (b ∷ more) ++ x ∷ []) last

pub before_last_byte-stripped : (byte : ℕ) (word : List ℕ) (r : Option (Bor (List ℕ)))
    → MatchOption r ((front : List ℕ) → word ≢ front ++ byte ∷ []) (λ x. word ≡ x.now ++ byte ∷ [])
    → option_copied r ≡ before_last_byte byte word
before_last_byte-stripped byte word (Some x) is = rw is (sym (before_last_byte-ended byte x.now))
before_last_byte-stripped byte word None other = elim (eqb_tells (slice_index word (length word - 1)) byte) [
  | inl (test, last) ↦ elim (cases_lt 0 (length word)) [
    | inl long ↦ absurd (other (take (length word - 1) word) (ended byte word last long))
    | inr short ↦ rw (test, le-ltb 0 (length word) short) refl
  ]
  | inr (test, last) ↦ rw test refl
]
