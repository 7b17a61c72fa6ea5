-- Lemmas that state which sets are subsets of other sets.
use Rattle.std.proofs.Common.{◌≡◌, Bool, true, false, not, ◌&&◌, ◌||◌, refl, sym, ◌∙◌, ◌⊎◌, inl, inr}
use Rattle.std.proofs.lemmas.Bool.{false≢true}
use Rattle.intr_unit.specs.BitSet.{BitSet, no_bits, contains, union, intersection, difference, when, IsSubset}
use Rattle.intr_unit.proofs.SetLaws.{contains-no_bits, passes}

pub both_left : (x y : Bool) → (x && y) ≡ true → x ≡ true
both_left true y h = refl
both_left false y h = h

pub both_right : (x y : Bool) → (x && y) ≡ true → y ≡ true
both_right true y h = h
both_right false y h = absurd (false≢true h)

pub one_of : (x y : Bool) → (x || y) ≡ true → (x ≡ true) ⊎ (y ≡ true)
one_of true y h = inl refl
one_of false y h = inr h

pub IsSubset-no_bits : (outer : BitSet) → IsSubset no_bits outer
IsSubset-no_bits outer = record { member = λ k h. absurd (false≢true (sym (contains-no_bits k) ∙ h)) }

pub IsSubset-itself : (set : BitSet) → IsSubset set set
IsSubset-itself set = record { member = λ k h. h }

pub IsSubset-union : (left right outer : BitSet) → IsSubset left outer → IsSubset right outer →
    IsSubset (union left right) outer
unfolding union
IsSubset-union left right outer p q = record {
  member = λ k h. elim (one_of (contains left k) (contains right k) (passes _ k h)) [
    | inl l ↦ p.member k l
    | inr r ↦ q.member k r
  ];
}

pub IsSubset-intersection_left : (left right outer : BitSet) → IsSubset left outer →
    IsSubset (intersection left right) outer
unfolding intersection
IsSubset-intersection_left left right outer p = record {
  member = λ k h. p.member k (both_left (contains left k) (contains right k) (passes _ k h));
}

pub IsSubset-intersection_right : (left right outer : BitSet) → IsSubset right outer →
    IsSubset (intersection left right) outer
unfolding intersection
IsSubset-intersection_right left right outer q = record {
  member = λ k h. q.member k (both_right (contains left k) (contains right k) (passes _ k h));
}

pub IsSubset-difference : (left right outer : BitSet) → IsSubset left outer →
    IsSubset (difference left right) outer
unfolding difference
IsSubset-difference left right outer p = record {
  member = λ k h. p.member k (both_left (contains left k) (not (contains right k)) (passes _ k h));
}

pub IsSubset-when : (condition : Bool) (set outer : BitSet) → IsSubset set outer →
    IsSubset (when condition set) outer
unfolding when
IsSubset-when true set outer p = p
IsSubset-when false set outer p = IsSubset-no_bits outer

-- The rules for changes that keep the words within the group's bits.
pub ruleset subsets = (
  IsSubset-no_bits,
  IsSubset-itself,
  IsSubset-union,
  IsSubset-intersection_left,
  IsSubset-intersection_right,
  IsSubset-difference,
  IsSubset-when,
)
