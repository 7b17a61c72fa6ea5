-- Lemmas about the due bits, computed by set operations, and about the lowest due bit, which is reported next.
use Rattle.std.proofs.Common.{◌≡◌, ℕ, Bool, true, false, not, ◌&&◌, ◌<◌, refl, ap, sym, ◌∙◌, arith}
use Rattle.std.specs.Prelude.{Some, None, is_some}
use Rattle.std.proofs.lemmas.Bool.{false_from_ne_true}
use Rattle.intr_unit.specs.BitSet.{BitSet, contains, intersection, difference, lowest_of}
use Rattle.intr_unit.specs.Group.{vector_of, routed_bits}
use Rattle.intr_unit.specs.Interrupts.{Interrupts, is_due, due_bits, next_bit}
use Rattle.intr_unit.specs.Accesses.{IsPending}
use Rattle.intr_unit.specs.Laws.{IsDueBy, IsMessageOf}
use Rattle.intr_unit.proofs.SetLaws.{same_bits, bits_where-lt, contains-bits_where, contains-intersection}
use Rattle.intr_unit.proofs.SetLaws.{contains-difference}
use Rattle.intr_unit.proofs.Subsets.{both_left, both_right}
use Rattle.intr_unit.proofs.Finding.{IsFirst, find-first, find-first_of, find-none_of}

-- The causes that are enabled in the mask register, aren't reported, and are routed.
abbrev remaining : Interrupts → ℕ → BitSet
remaining s misc = intersection (difference (intersection s.causes s.enabled) s.reported) (routed_bits s.group misc)

contains-remaining : (s : Interrupts) (misc k : ℕ) → k < 32 → contains (remaining s misc) k ≡ is_due s misc k
unfolding routed_bits
contains-remaining s misc k h =
    rw (
      contains-intersection (difference (intersection s.causes s.enabled) s.reported) (routed_bits s.group misc) k h,
      contains-difference (intersection s.causes s.enabled) s.reported k h,
      contains-intersection s.causes s.enabled k h,
      contains-bits_where (λ bit. is_some (vector_of s.group misc bit)) k h,
    )

remaining-is : (s : Interrupts) (misc : ℕ) → remaining s misc ≡ due_bits s misc
unfolding due_bits intersection
remaining-is s misc =
    same_bits (remaining s misc) (due_bits s misc) (bits_where-lt _) (bits_where-lt _)
    (λ k h. contains-remaining s misc k h ∙ sym (contains-bits_where (is_due s misc) k h))

-- The bit that the code finds is the bit that is reported next.
pub lowest_of-remaining : (s : Interrupts) (misc : ℕ) →
    lowest_of (intersection (difference (intersection s.causes s.enabled) s.reported) (routed_bits s.group misc))
    ≡ next_bit s misc
unfolding next_bit
lowest_of-remaining s misc = ap lowest_of (remaining-is s misc)

-- ---- the lowest due bit

pub first_due : (s : Interrupts) (misc bit : ℕ) → next_bit s misc ≡ Some bit → IsFirst (is_due s misc) 0 32 bit
unfolding next_bit lowest_of due_bits
first_due s misc bit e =
    let first = find-first_of (contains (due_bits s misc)) 32 0 bit e in
    record {
      low = first.low;
      high = first.high;
      passes = sym (contains-bits_where (is_due s misc) bit first.high) ∙ first.passes;
      before = λ i lo hi.
          sym (contains-bits_where (is_due s misc) i (omega (arith, first.high))) ∙ first.before i lo hi;
    }

pub none_due : (s : Interrupts) (misc bit : ℕ) → next_bit s misc ≡ None → bit < 32 → is_due s misc bit ≡ false
unfolding next_bit lowest_of due_bits
none_due s misc bit e h =
    sym (contains-bits_where (is_due s misc) bit h)
    ∙ find-none_of (contains (due_bits s misc)) 32 0 e bit (omega arith) h

not_true : (b : Bool) → not b ≡ true → b ≡ false
not_true true h = sym h
not_true false h = refl

pub unreported : (s : Interrupts) (misc bit : ℕ) → is_due s misc bit ≡ true → contains s.reported bit ≡ false
unreported s misc bit h =
    not_true (contains s.reported bit)
    (both_right (contains s.causes bit && contains s.enabled bit) (not (contains s.reported bit))
    (both_left _ (is_some (vector_of s.group misc bit)) h))

pub pending : (s : Interrupts) (misc bit : ℕ) → is_due s misc bit ≡ true → IsPending s bit
pending s misc bit h =
    let both = both_left (contains s.causes bit && contains s.enabled bit) (not (contains s.reported bit))
    (both_left _ (is_some (vector_of s.group misc bit)) h) in
    record {
      cause = both_left (contains s.causes bit) (contains s.enabled bit) both;
      mask = both_right (contains s.causes bit) (contains s.enabled bit) both;
    }

pub routed : (s : Interrupts) (misc bit : ℕ) → is_due s misc bit ≡ true → is_some (vector_of s.group misc bit) ≡ true
routed s misc bit h =
    both_right (contains s.causes bit && contains s.enabled bit && not (contains s.reported bit))
    (is_some (vector_of s.group misc bit)) h

pub all_hold : (a b c d : Bool) → a ≡ true → b ≡ true → c ≡ false → d ≡ true → (a && b && not c && d) ≡ true
all_hold a b c d p q r t = rw (p, q, r, t)

pub is_due-by : (s : Interrupts) (misc bit vector : ℕ) → IsDueBy s misc bit vector → is_due s misc bit ≡ true
is_due-by s misc bit vector due =
    all_hold (contains s.causes bit) (contains s.enabled bit) (contains s.reported bit)
    (is_some (vector_of s.group misc bit)) due.cause due.mask due.unreported (ap is_some due.routed)

-- A message for a bit reports that bit.
pub next_bit-of : (s : Interrupts) (misc vector bit : ℕ) → IsMessageOf s misc vector bit → next_bit s misc ≡ Some bit
unfolding next_bit lowest_of due_bits
next_bit-of s misc vector bit message =
    let within : bit < 32 = message.within in
    find-first (contains (due_bits s misc)) 32 0 bit (omega arith) (omega arith)
    (contains-bits_where (is_due s misc) bit within ∙ is_due-by s misc bit vector message.due)
    (λ i lt.
    contains-bits_where (is_due s misc) i (omega arith)
    ∙ false_from_ne_true (is_due s misc i) (λ due. omega (arith, message.lowest i due)))
