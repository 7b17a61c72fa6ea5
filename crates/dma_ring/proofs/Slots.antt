-- Lemmas that count the slots that the device owns in a ring.
use Rattle.std.proofs.Common.{◌≡◌, ◌≢◌, ℕ, zero, suc, ◌+◌, ◌-◌, ◌<◌, ◌≤◌, false, nat_le, ◌==◌, [], ◌∷◌, length, if◌then◌else◌, refl, ap, sym, ◌∙◌, inl, inr, arith, cond}
use Rattle.std.specs.Prelude.{IsFalse}
use Rattle.std.proofs.lemmas.Bool.{cases_Bool, cond-true, cond-false, eqb-true, eq-eqb, le-leb, leb-true, false_from_ne_true}
use Rattle.std.proofs.lemmas.Bool.Decides.{nat_tests}
use Rattle.dma_ring.specs.Ring.{slots_of, is_outside, next_of, slots_up_to, available_slots}
use Rattle.dma_ring.specs.Laws.{AvailableSlotsFollowTheHead}
use Rattle.dma_ring.specs.declared.ring.Ring.{Ring}

-- The distance from a slot to the tail.
pub distance : ℕ → ℕ → ℕ → ℕ
distance slots tail slot = if nat_le slot tail then tail - slot else slots - slot + tail

distance_zero : (slots tail slot : ℕ) → slot ≡ tail → distance slots tail slot ≡ 0
unfolding distance
distance_zero slots tail slot e = grind (arith, nat_tests)

distance_next : (slots tail slot : ℕ) → slot < slots → tail < slots → slot ≢ tail
    → distance slots tail slot ≡ suc (distance slots tail (next_of slots slot))
unfolding distance
distance_next slots tail slot s t n = grind (arith, nat_tests)

distance_small : (slots tail slot : ℕ) → slot < slots → tail < slots → distance slots tail slot < slots
unfolding distance
distance_small slots tail slot s t = grind (arith, nat_tests)

next_below : (slots slot : ℕ) → slot < slots → next_of slots slot < slots
next_below slots slot s = grind (arith, nat_tests)

apart : (slot tail : ℕ) → (slot == tail) ≡ false → slot ≢ tail
apart slot tail f e = grind (arith, nat_tests)

-- With enough room, the number of slots is the distance to the tail.
length-slots_up_to : (slots tail most slot : ℕ) → slot < slots → tail < slots → distance slots tail slot ≤ most
    → length (slots_up_to slots tail most slot) ≡ distance slots tail slot
unfolding slots_up_to
length-slots_up_to slots tail zero slot s t h = omega arith
length-slots_up_to slots tail (suc most) slot s t h =
    elim (cases_Bool (slot == tail)) [
      | inl here ↦
          ap length (cond-true (slot == tail) [] (slot ∷ slots_up_to slots tail most (next_of slots slot)) here)
          ∙ sym (distance_zero slots tail slot (eqb-true _ _ here))
      | inr on ↦
          let step = distance_next slots tail slot s t (apart slot tail on) in
          let room : distance slots tail (next_of slots slot) ≤ most = omega arith in
          ap length (cond-false (slot == tail) [] (slot ∷ slots_up_to slots tail most (next_of slots slot)) on)
          ∙ ap suc (length-slots_up_to slots tail most (next_of slots slot) (next_below slots slot s) t room) ∙ sym step
    ]

-- With enough room, more room adds no slots.
slots_up_to-room : (slots tail most more slot : ℕ) → slot < slots → tail < slots → distance slots tail slot ≤ most
    → distance slots tail slot ≤ more → slots_up_to slots tail most slot ≡ slots_up_to slots tail more slot
unfolding slots_up_to
slots_up_to-room slots tail zero zero slot s t h k = refl
slots_up_to-room slots tail zero (suc more) slot s t h k =
    elim (cases_Bool (slot == tail)) [
      | inl here ↦ sym (cond-true (slot == tail) [] (slot ∷ slots_up_to slots tail more (next_of slots slot)) here)
      | inr on ↦ let step = distance_next slots tail slot s t (apart slot tail on) in absurd (omega arith)
    ]
slots_up_to-room slots tail (suc most) zero slot s t h k =
    elim (cases_Bool (slot == tail)) [
      | inl here ↦ cond-true (slot == tail) [] (slot ∷ slots_up_to slots tail most (next_of slots slot)) here
      | inr on ↦ let step = distance_next slots tail slot s t (apart slot tail on) in absurd (omega arith)
    ]
slots_up_to-room slots tail (suc most) (suc more) slot s t h k =
    elim (cases_Bool (slot == tail)) [
      | inl here ↦ cond-true (slot == tail) [] (slot ∷ slots_up_to slots tail most (next_of slots slot)) here
          ∙ sym (cond-true (slot == tail) [] (slot ∷ slots_up_to slots tail more (next_of slots slot)) here)
      | inr on ↦
          let step = distance_next slots tail slot s t (apart slot tail on) in
          ap (λ rest. cond (slot == tail) [] (slot ∷ rest))
          (slots_up_to-room slots tail most more (next_of slots slot) (next_below slots slot s) t (omega arith)
          (omega arith))
    ]

-- The slots are the first one, followed by those after it.
slots_up_to-more : (slots tail most slot : ℕ) → slot < slots → tail < slots → slot ≢ tail
    → distance slots tail slot ≤ most
    → slots_up_to slots tail most slot ≡ slot ∷ slots_up_to slots tail most (next_of slots slot)
unfolding slots_up_to
slots_up_to-more slots tail zero slot s t n h = let step = distance_next slots tail slot s t n in absurd (omega arith)
slots_up_to-more slots tail (suc most) slot s t n h =
    let step = distance_next slots tail slot s t n in
    let on : (slot == tail) ≡ false = false_from_ne_true (slot == tail) (λ e. n (eqb-true _ _ e)) in
    cond-false (slot == tail) [] (slot ∷ slots_up_to slots tail most (next_of slots slot)) on
    ∙ ap (λ rest. slot ∷ rest)
    (slots_up_to-room slots tail most (suc most) (next_of slots slot) (next_below slots slot s) t (omega arith)
    (omega arith))

inside : (r : Ring) → IsFalse (is_outside r) → (r.head < slots_of r) × (r.tail < slots_of r)
inside r h = (grind (arith, nat_tests), grind (arith, nat_tests))

slots_up_to-none : (slots tail most slot : ℕ) → slot ≡ tail → slots_up_to slots tail most slot ≡ []
unfolding slots_up_to
slots_up_to-none slots tail zero slot e = refl
slots_up_to-none slots tail (suc most) slot e =
    cond-true (slot == tail) [] (slot ∷ slots_up_to slots tail most (next_of slots slot)) (eq-eqb _ _ e)

pub length-available_slots : (r : Ring) → IsFalse (is_outside r)
    → length (available_slots r) ≡ (if nat_le r.head r.tail then r.tail - r.head else slots_of r - r.head + r.tail)
unfolding distance
length-available_slots r h =
    let i = inside r h in
    let far = distance_small (slots_of r) r.tail r.head i.0 i.1 in
    length-slots_up_to (slots_of r) r.tail (slots_of r) r.head i.0 i.1 (omega arith)

pub available_slots_follow_the_head : AvailableSlotsFollowTheHead
available_slots_follow_the_head = record {
  empty = λ r h e. slots_up_to-none (slots_of r) r.tail (slots_of r) r.head e;
  more = λ r h n.
      let i = inside r h in
      let far = distance_small (slots_of r) r.tail r.head i.0 i.1 in
      slots_up_to-more (slots_of r) r.tail (slots_of r) r.head i.0 i.1 n (omega arith);
}

pub available_before_the_tail : (r : Ring) → IsFalse (is_outside r) → r.head ≤ r.tail
    → r.tail - r.head ≡ length (available_slots r)
available_before_the_tail r h o =
    sym (length-available_slots r h
    ∙ cond-true (nat_le r.head r.tail) (r.tail - r.head) (slots_of r - r.head + r.tail) (le-leb _ _ o))

pub available_after_the_tail : (r : Ring) → IsFalse (is_outside r) → r.tail < r.head
    → slots_of r - r.head + r.tail ≡ length (available_slots r)
available_after_the_tail r h o =
    let no : nat_le r.head r.tail ≡ false =
    false_from_ne_true (nat_le r.head r.tail) (λ e. let l = leb-true r.head r.tail e in absurd (omega arith)) in
    sym (length-available_slots r h
    ∙ cond-false (nat_le r.head r.tail) (r.tail - r.head) (slots_of r - r.head + r.tail) no)
