-- Lemmas about what each call, except a message, does to each bit.
use Rattle.std.proofs.Common.{◌≡◌, ℕ, ◌<◌, Bool, true, false, not, ◌&&◌, refl, sym, ap, ◌∙◌}
use Rattle.intr_unit.specs.declared.group.Group.{Group}
use Rattle.intr_unit.specs.declared.group.Group.TheVariants.{Pf, Vf}
use Rattle.intr_unit.specs.BitSet.{BitSet, contains, bits_from_to, union, intersection, difference, when, IsSubset}
use Rattle.intr_unit.specs.Group.{group_bits, bits_cleared_by_read}
use Rattle.intr_unit.specs.Interrupts.{Interrupts, settled, auto_masked}
use Rattle.intr_unit.specs.Laws.{Bits, Leaves, keeps_cause, RaisesChangeBits, ReadsChangeBits}
use Rattle.intr_unit.specs.Laws.{WritesOfOnesChangeBits, MaskSetsChangeBits, MaskClearsChangeBits, AutoWritesChangeBits}
use Rattle.intr_unit.proofs.SetLaws.{contains-union, contains-intersection, contains-difference, contains-when}
use Rattle.intr_unit.proofs.SetLaws.{contains-acting, contains-bits_from_to}

-- ---- from sets to bits

by_parts : (a b c x y z : Bool) → a ≡ x → b ≡ y → c ≡ z → (a && (b && c)) ≡ (x && y && z)
by_parts true b c x y z p q r = rw (← p, q, r)
by_parts false b c x y z p q r = rw (← p)

-- After a call that stores these words, the group's bits are the bits of these words.
pub leaves-settled : (s : Interrupts) (causes enabled reported : BitSet) (bits : Bits) →
    ((bit : ℕ) → bit < 32 → contains causes bit ≡ bits.cause bit) →
    ((bit : ℕ) → bit < 32 → contains enabled bit ≡ bits.mask bit) →
    ((bit : ℕ) → bit < 32 → contains reported bit ≡ bits.mark bit) → Leaves s (settled s causes enabled reported) bits
leaves-settled s causes enabled reported bits cause mask mark = record {
  causes = cause;
  masks = mask;
  reported = λ bit h.
      contains-intersection reported (intersection causes enabled) bit h
      ∙ ap (λ b. contains reported bit && b) (contains-intersection causes enabled bit h)
      ∙ by_parts (contains reported bit) (contains causes bit) (contains enabled bit) _ _ _
      (mark bit h) (cause bit h) (mask bit h);
  auto_clear = refl;
  auto_mask = refl;
}

-- ---- raises and writes

pub raises_change : RaisesChangeBits
raises_change s raise auto =
    leaves-settled s (union s.causes (intersection raise (group_bits s.group)))
    (union s.enabled (auto_masked s raise auto)) s.reported _
    (λ bit h. simp (contains-union, contains-intersection))
    (λ bit h. simp (contains-union, contains-acting)) (λ bit h. refl)

pub writes_of_ones_change : WritesOfOnesChangeBits
writes_of_ones_change s ones auto =
    leaves-settled s (difference s.causes ones) (difference s.enabled (auto_masked s ones auto)) s.reported _
    (λ bit h. simp contains-difference) (λ bit h. simp (contains-difference, contains-acting)) (λ bit h. refl)

pub mask_sets_change : MaskSetsChangeBits
mask_sets_change s ones =
    leaves-settled s s.causes (union s.enabled (intersection ones (group_bits s.group))) s.reported _
    (λ bit h. refl) (λ bit h. simp (contains-union, contains-intersection)) (λ bit h. refl)

pub mask_clears_change : MaskClearsChangeBits
mask_clears_change s ones =
    leaves-settled s s.causes (difference s.enabled ones) s.reported _
    (λ bit h. refl) (λ bit h. simp contains-difference) (λ bit h. refl)

pub auto_writes_change : AutoWritesChangeBits
auto_writes_change = record {
  auto_clear = λ s word bit h. contains-intersection word (group_bits s.group) bit h;
  auto_mask = λ s word bit h. contains-intersection word (group_bits s.group) bit h;
  alone = λ s clear mask. (refl, refl);
}

-- ---- reads

-- Removing a superset of a set leaves no bits of the set.
outside : (inner outer : Bool) → (inner ≡ true → outer ≡ true) → (inner && not outer) ≡ (inner && false)
outside true true h = refl
outside true false h = sym (h refl)
outside false outer h = refl

all_cleared : (group : Group) → bits_cleared_by_read group false ≡ group_bits group
unfolding bits_cleared_by_read group_bits
all_cleared Pf = refl
all_cleared (Vf v) = refl

cleared_of_vf : (v : ℕ) (ocd : Bool) → bits_cleared_by_read (Vf v) ocd ≡ group_bits (Vf v)
unfolding bits_cleared_by_read group_bits
cleared_of_vf v ocd = refl

cleared_of_pf : bits_cleared_by_read Pf true ≡ bits_from_to 29 16
unfolding bits_cleared_by_read
cleared_of_pf = refl

-- The causes that a read keeps.
kept : (group : Group) (ocd : Bool) (causes bit : ℕ) → IsSubset causes (group_bits group) → bit < 32 →
    (contains causes bit && not (contains (bits_cleared_by_read group ocd) bit))
    ≡ (contains causes bit && keeps_cause group ocd bit)
kept Pf true causes bit within h =
    ap (λ set. contains causes bit && not (contains set bit)) cleared_of_pf
    ∙ ap (λ b. contains causes bit && not b) (contains-bits_from_to 29 16 bit h)
kept Pf false causes bit within h =
    ap (λ set. contains causes bit && not (contains set bit)) (all_cleared Pf)
    ∙ outside (contains causes bit) (contains (group_bits Pf) bit) (within.member bit)
kept (Vf v) ocd causes bit within h =
    ap (λ set. contains causes bit && not (contains set bit)) (cleared_of_vf v ocd)
    ∙ outside (contains causes bit) (contains (group_bits (Vf v)) bit) (within.member bit)

pub reads_change : ReadsChangeBits
reads_change s ocd auto ok =
    leaves-settled s (difference s.causes (bits_cleared_by_read s.group ocd))
    (difference s.enabled (when auto s.auto_mask)) s.reported _
    (λ bit h.
    contains-difference s.causes (bits_cleared_by_read s.group ocd) bit h
    ∙ kept s.group ocd s.causes bit ok.causes_exist h)
    (λ bit h. simp (contains-difference, contains-when)) (λ bit h. refl)
