-- Lemmas about content without a fault.
use Rattle.std.proofs.Common.{◌≡◌, ℕ, ◌*◌, ◌^◌, ◌≤◌, Bool, true, false, not, cond, nat_lt, nat_le, ◌==◌, List, [], ◌∷◌, filter, Option, Some, None, refl, inl, inr, arith}
use Rattle.std.specs.List.{list_all, list_any, AllByRecursion}
use Rattle.std.proofs.lemmas.Bool.{and_parts}
use Rattle.std.proofs.lemmas.Bool.Decides.{eqb_tells}
use borrow.Author.Tests.{leb-true}
use Rattle.eeprom_image.specs.Image.{is_size}
use Rattle.eeprom_image.specs.Content.{Content}
use Rattle.eeprom_image.specs.Fault.{indexes, given_again, lesser, least, section_end, is_reserved, fits, points_inside, index_fault, or_else, twice_given, reserved_given, content_fault}
use Rattle.eeprom_image.specs.declared.text.AsmFault.TheVariants.{DoesNotFit, PointerOutside}

fault_parts : (twice reserved : Option ℕ) (inside points : Bool)
    → or_else (index_fault twice reserved)
    (cond (not inside) (Some DoesNotFit) (cond (not points) (Some PointerOutside) None)) ≡ None
    → (twice ≡ None) × (reserved ≡ None) × (inside ≡ true) × (points ≡ true)
fault_parts (Some index) reserved inside points h = absurd (let no : ⊥ = cc in no)
fault_parts None (Some index) inside points h = absurd (let no : ⊥ = cc in no)
fault_parts None None false points h = absurd (let no : ⊥ = cc in no)
fault_parts None None true false h = absurd (let no : ⊥ = cc in no)
fault_parts None None true true h = (refl, refl, refl, refl)

lesser_some : (n : ℕ) (other : Option ℕ) → lesser n other ≡ None → ⊥
lesser_some n None h = cc
lesser_some n (Some m) h = cc

least_none : (ns : List ℕ) → least ns ≡ None → ns ≡ []
least_none [] h = refl
least_none (n ∷ ns) h = absurd (lesser_some n (least ns) h)

pub sound_parts : (content : Content) → content_fault content ≡ None
    → (given_again (indexes content.words) ≡ [])
    × (filter (is_reserved (section_end content.triples)) (indexes content.words) ≡ []) × (fits content ≡ true)
    × (points_inside content ≡ true)
unfolding content_fault
sound_parts content none =
    let parts = fault_parts (twice_given content) (reserved_given content) (fits content) (points_inside content) none
    in
    (least_none _ parts.0, least_none _ parts.1, parts.2, parts.3)

bounds_of_any : (size : ℕ) (ss : List ℕ) → list_any (λ s. size == 64 * 2 ^ s) ss ≡ true
    → AllByRecursion (λ s. (64 ≤ 64 * 2 ^ s) × (64 * 2 ^ s ≤ 16384)) ss → (64 ≤ size) × (size ≤ 16384)
bounds_of_any size [] h bounds = absurd (let no : ⊥ = cc in no)
bounds_of_any size (s ∷ ss) h bounds = elim (eqb_tells size (64 * 2 ^ s)) [
  | inl (t, e) ↦ let low = bounds.0.0 in let high = bounds.0.1 in (omega arith, omega arith)
  | inr (t, e) ↦ bounds_of_any size ss (rw t at h) bounds.1
]

-- An image has 64 to 16,384 words.
pub size_bounds : (size : ℕ) → is_size size ≡ true → (64 ≤ size) × (size ≤ 16384)
size_bounds size h = bounds_of_any size (0 ∷ 1 ∷ 2 ∷ 3 ∷ 4 ∷ 5 ∷ 6 ∷ 7 ∷ 8 ∷ []) h (
  (omega arith, omega arith),
  (
    (omega arith, omega arith),
    (
      (omega arith, omega arith),
      (
        (omega arith, omega arith),
        (
          (omega arith, omega arith),
          (
            (omega arith, omega arith),
            ((omega arith, omega arith), ((omega arith, omega arith), ((omega arith, omega arith), tt))),
          ),
        ),
      ),
    ),
  ),
)

pub fits_end : (content : Content) → fits content ≡ true → section_end content.triples ≤ content.size
fits_end content h = leb-true (section_end content.triples) content.size
    (and_parts (list_all (λ given. nat_lt given.0 content.size) content.words)
    (nat_le (section_end content.triples) content.size) h).1
