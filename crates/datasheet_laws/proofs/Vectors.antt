-- The vectors of bits.
use Rattle.std.proofs.Common.{◌≡◌, ℕ, ◌<◌, ◌%◌, ◌==◌, Bool, true, false, nat_le, if◌then◌else◌, cond, Option, Some, None, refl, ap, sym, arith, inl, inr, ◌⊎◌}
use Rattle.std.proofs.Math.Nat.{div-one}
use Rattle.std.proofs.lemmas.Bool.{cases_Bool, le-leb, leb-true, eqb-true}
use Rattle.std.proofs.lemmas.Bool.Decides.{nat_tests}
use Rattle.datasheet_laws.specs.Prelude.{Group, Pf, Vf, contains, has_bit, vector_of}
use Rattle.datasheet_laws.specs.Names.{bits_in}
use Rattle.datasheet_laws.specs.Steps.{valid_vector, vector_by}

last_bit : (bit : ℕ) → bit < 31 → nat_le bit 29 ≡ false → (bit == 30) ≡ true
last_bit bit b f = grind (arith, nat_tests)

pub vectors : (misc : ℕ) (g : Group) (bit : ℕ) → bit < bits_in g → vector_by misc g bit ≡ vector_of g misc bit
unfolding vector_of contains
vectors misc Pf bit b =
    elim (cases_Bool (nat_le bit 29)) [
      | inl t ↦ rw t refl
      | inr f ↦ rw (f, last_bit bit b f)
          (ap (λ n. if nat_le bit 15 then Some bit else valid_vector (has_bit 7 misc) (n % 64)) (sym (div-one misc)))
    ]
vectors misc (Vf v) bit b = rw (le-leb bit 2 (omega arith)) refl

-- A bit with a vector is one of the bits of its group.
choice : {A : Type 0} (b : Bool) (o p : Option A) (x : A) → cond b o p ≡ Some x → (b ≡ true) ⊎ (p ≡ Some x)
choice true o p x e = inl refl
choice false o p x e = inr e

no_some : {A : Type 0} (x : A) → None ≡ Some x → ⊥
no_some x e = cc

pub vector_within : (misc : ℕ) (g : Group) (bit vector : ℕ) → vector_of g misc bit ≡ Some vector → bit < bits_in g
unfolding vector_of
vector_within misc Pf bit vector e =
    elim (choice _ _ _ vector e) [
      | inl low ↦ let small = leb-true bit 15 low in omega arith
      | inr rest ↦ elim (choice _ _ _ vector rest) [
        | inl middle ↦ let small = leb-true bit 29 middle in omega arith
        | inr last ↦ elim (choice _ _ _ vector last) [
          | inl same ↦ let is = eqb-true bit 30 same in omega arith
          | inr none ↦ absurd (no_some vector none)
        ]
      ]
    ]
vector_within misc (Vf v) bit vector e =
    elim (choice _ _ _ vector e) [
      | inl low ↦ let small = leb-true bit 2 low in omega arith
      | inr none ↦ absurd (no_some vector none)
    ]
