-- Masking loses no cause.
use Rattle.std.proofs.Common.{◌≡◌, ℕ, ◌<◌, Bool, true, false, not, ◌&&◌, ◌||◌, refl, ap, ◌∙◌}
use Rattle.std.specs.Prelude.{is_some}
use Rattle.intr_unit.specs.BitSet.{contains, union, intersection, difference}
use Rattle.intr_unit.specs.Group.{group_bits, vector_of}
use Rattle.intr_unit.specs.Interrupts.{after_mask_clear, after_mask_set}
use Rattle.intr_unit.specs.Laws.{MaskingLosesNoCause}
use Rattle.intr_unit.proofs.SetLaws.{contains-union, contains-intersection, contains-difference}
use Rattle.intr_unit.proofs.Due.{all_hold}
use Rattle.intr_unit.proofs.ReportedMarks.{or_true}

both : (a b : Bool) → a ≡ true → b ≡ true → (a && b) ≡ true
both a b p q = rw (p, q)

first_false : (a b : Bool) → a ≡ false → (a && b) ≡ false
first_false a b p = rw p

second_false : (a b : Bool) → b ≡ false → (a && b) ≡ false
second_false true b p = p
second_false false b p = refl

-- After masks are cleared and set again, all these masks are 1, and none of their bits is marked as reported.
unmasked : (enabled bits group bit : ℕ) → bit < 32 → contains bits bit ≡ true → contains group bit ≡ true →
    contains (union (difference enabled bits) (intersection bits group)) bit ≡ true
unmasked enabled bits group bit h chosen exists =
    contains-union (difference enabled bits) (intersection bits group) bit h
    ∙ ap (λ b. contains (difference enabled bits) bit || b)
    (contains-intersection bits group bit h ∙ both (contains bits bit) (contains group bit) chosen exists)
    ∙ or_true (contains (difference enabled bits) bit)

masked : (enabled bits bit : ℕ) → bit < 32 → contains bits bit ≡ true →
    contains (difference enabled bits) bit ≡ false
masked enabled bits bit h chosen =
    contains-difference enabled bits bit h
    ∙ second_false (contains enabled bit) (not (contains bits bit)) (ap not chosen)

outside_right : (left right bit : ℕ) → bit < 32 → contains right bit ≡ false →
    contains (intersection left right) bit ≡ false
outside_right left right bit h none =
    contains-intersection left right bit h ∙ second_false (contains left bit) (contains right bit) none

outside_left : (left right bit : ℕ) → bit < 32 → contains left bit ≡ false →
    contains (intersection left right) bit ≡ false
outside_left left right bit h none =
    contains-intersection left right bit h ∙ first_false (contains left bit) (contains right bit) none

pub masking_keeps : MaskingLosesNoCause
masking_keeps = record {
  causes = λ s bits. refl;
  due_again = λ s bits misc bit h exists cause chosen vector.
      let cleared = difference s.enabled bits in
      let again = union cleared (intersection bits (group_bits s.group)) in
      let gone : contains (after_mask_clear s bits).reported bit ≡ false =
      outside_right s.reported (intersection s.causes cleared) bit h
      (outside_right s.causes cleared bit h (masked s.enabled bits bit h chosen)) in
      all_hold (contains s.causes bit) (contains again bit)
      (contains (after_mask_set (after_mask_clear s bits) bits).reported bit) (is_some (vector_of s.group misc bit))
      cause (unmasked s.enabled bits (group_bits s.group) bit h chosen exists)
      (outside_left (after_mask_clear s bits).reported (intersection s.causes again) bit h gone) vector;
}
