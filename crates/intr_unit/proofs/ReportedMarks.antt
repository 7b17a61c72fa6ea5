-- Lemmas about which bits stay marked as reported during a list of accesses.
use Rattle.std.proofs.Common.{◌≡◌, ℕ, ◌<◌, Bool, true, false, ◌&&◌, ◌||◌, List, [], ◌∷◌, refl, sym, ap, ◌∙◌, eq-eqb}
use Rattle.std.specs.Prelude.{Option, Some, None}
use Rattle.std.proofs.lemmas.Bool.{false≢true}
use Rattle.intr_unit.specs.BitSet.{BitSet, contains, union, intersection, only}
use Rattle.intr_unit.specs.Interrupts.{Interrupts, IsConsistent, settled, next_bit, after_message, after_message_of}
use Rattle.intr_unit.specs.Accesses.{Access, raise, read, write_one, mask_set, mask_clear, set_auto_clear}
use Rattle.intr_unit.specs.Accesses.{set_auto_mask, message, reset, after, after_all, IsPending, StaysPending}
use Rattle.intr_unit.specs.Laws.{BitsAreReportedOnce, ReportedBitsArePending}
use Rattle.intr_unit.proofs.SetLaws.{contains-no_bits, contains-union, contains-intersection, contains-only, passes}
use Rattle.intr_unit.proofs.Subsets.{both_left, both_right}
use Rattle.intr_unit.proofs.Due.{first_due, unreported}

reported-settled : (s : Interrupts) (causes enabled reported : BitSet) (bit : ℕ) → bit < 32 → contains reported bit
    ≡ true →
    IsPending (settled s causes enabled reported) bit → contains (settled s causes enabled reported).reported bit ≡ true
reported-settled s causes enabled reported bit h mark ready =
    contains-intersection reported (intersection causes enabled) bit h
    ∙ ap (λ b. b && contains (intersection causes enabled) bit) mark
    ∙ contains-intersection causes enabled bit h
    ∙ ap (λ b. b && contains enabled bit) ready.cause
    ∙ ready.mask

contains-union_left : (left right bit : ℕ) → bit < 32 → contains left bit ≡ true →
    contains (union left right) bit ≡ true
contains-union_left left right bit h e =
    contains-union left right bit h ∙ ap (λ b. b || contains right bit) e

pub or_true : (b : Bool) → (b || true) ≡ true
or_true true = refl
or_true false = refl

contains-union_only : (set bit : ℕ) → bit < 32 → contains (union set (only bit)) bit ≡ true
contains-union_only set bit h =
    contains-union set (only bit) bit h
    ∙ ap (λ b. contains set bit || b) (contains-only bit bit h ∙ eq-eqb bit bit refl)
    ∙ or_true (contains set bit)

reported-after_message_of : (s : Interrupts) (eiame : Bool) (next : Option ℕ) (bit : ℕ) → bit < 32 →
    contains s.reported bit ≡ true → IsPending (after_message_of s eiame next) bit →
    contains (after_message_of s eiame next).reported bit ≡ true
reported-after_message_of s eiame None bit h mark ready = mark
reported-after_message_of s eiame (Some other) bit h mark ready =
    reported-settled s _ _ (union s.reported (only other)) bit h
    (contains-union_left s.reported (only other) bit h mark) ready

reported-after : (s : Interrupts) (access : Access) (bit : ℕ) → bit < 32 → contains s.reported bit ≡ true →
    IsPending (after s access) bit → contains (after s access).reported bit ≡ true
reported-after s (raise bits auto) bit h mark ready = reported-settled s _ _ s.reported bit h mark ready
reported-after s (read ocd auto) bit h mark ready = reported-settled s _ _ s.reported bit h mark ready
reported-after s (write_one bits auto) bit h mark ready = reported-settled s _ _ s.reported bit h mark ready
reported-after s (mask_set bits) bit h mark ready = reported-settled s _ _ s.reported bit h mark ready
reported-after s (mask_clear bits) bit h mark ready = reported-settled s _ _ s.reported bit h mark ready
reported-after s (set_auto_clear word) bit h mark ready = mark
reported-after s (set_auto_mask word) bit h mark ready = mark
reported-after s (message eiame misc) bit h mark ready =
    reported-after_message_of s eiame (next_bit s misc) bit h mark ready
reported-after s reset bit h mark ready = absurd (false≢true (sym (contains-no_bits bit) ∙ ready.cause))

stays-now : (s : Interrupts) (run : List Access) (bit : ℕ) → StaysPending s run bit → IsPending s bit
stays-now s [] bit stays = stays
stays-now s (access ∷ rest) bit stays = stays.0

reported-after_all : (s : Interrupts) (run : List Access) (bit : ℕ) → bit < 32 → contains s.reported bit ≡ true →
    StaysPending s run bit → contains (after_all s run).reported bit ≡ true
reported-after_all s [] bit h mark stays = mark
reported-after_all s (access ∷ rest) bit h mark stays =
    reported-after_all (after s access) rest bit h
    (reported-after s access bit h mark (stays-now (after s access) rest bit stays.1)) stays.1

reported-after_telling : (s : Interrupts) (eiame : Bool) (next : Option ℕ) (bit : ℕ) → bit < 32 → next ≡ Some bit →
    IsPending (after_message_of s eiame next) bit → contains (after_message_of s eiame next).reported bit ≡ true
reported-after_telling s eiame None bit h e ready = cc
reported-after_telling s eiame (Some other) bit h e ready =
    let same : bit ≡ other = cc in
    reported-settled s _ _ (union s.reported (only other)) bit h
    (ap (λ b. contains (union s.reported (only b)) bit) (sym same) ∙ contains-union_only s.reported bit h) ready

pub reported_once : BitsAreReportedOnce
reported_once s eiame misc bit e run stays misc_then again =
    let h = (first_due s misc bit e).high in
    let mark = reported-after_all (after_message s eiame misc) run bit h
    (reported-after_telling s eiame (next_bit s misc) bit h e
    (stays-now (after_message s eiame misc) run bit stays)) stays in
    let left = after_all (after_message s eiame misc) run in
    false≢true (sym (unreported left misc_then bit (first_due left misc_then bit again).passes) ∙ mark)

-- ---- reported bits are pending

within_both : (causes enabled bit : ℕ) → contains (intersection causes enabled) bit ≡ true →
    (contains causes bit ≡ true) × (contains enabled bit ≡ true)
unfolding intersection
within_both causes enabled bit h =
    let both = passes (λ k. contains causes k && contains enabled k) bit h in (
      both_left (contains causes bit) (contains enabled bit) both,
      both_right (contains causes bit) (contains enabled bit) both,
    )

pending-settled : (s : Interrupts) (causes enabled reported : BitSet) (bit : ℕ) →
    contains (settled s causes enabled reported).reported bit ≡ true → IsPending (settled s causes enabled reported) bit
pending-settled s causes enabled reported bit h =
    let both = within_both causes enabled bit (within_both reported (intersection causes enabled) bit h).1 in
    record { cause = both.0; mask = both.1 }

pending-before : (s : Interrupts) (bit : ℕ) → IsConsistent s → contains s.reported bit ≡ true → IsPending s bit
pending-before s bit ok h =
    let both = within_both s.causes s.enabled bit (ok.reported_is_pending.member bit h) in
    record { cause = both.0; mask = both.1 }

pending-after_message_of : (s : Interrupts) (eiame : Bool) (next : Option ℕ) (bit : ℕ) → IsConsistent s →
    contains (after_message_of s eiame next).reported bit ≡ true → IsPending (after_message_of s eiame next) bit
pending-after_message_of s eiame None bit ok h = pending-before s bit ok h
pending-after_message_of s eiame (Some reported) bit ok h = pending-settled s _ _ (union s.reported (only reported))
    bit h

pub reported_pending : ReportedBitsArePending
reported_pending s (raise bits auto) bit ok h = pending-settled s _ _ s.reported bit h
reported_pending s (read ocd auto) bit ok h = pending-settled s _ _ s.reported bit h
reported_pending s (write_one bits auto) bit ok h = pending-settled s _ _ s.reported bit h
reported_pending s (mask_set bits) bit ok h = pending-settled s _ _ s.reported bit h
reported_pending s (mask_clear bits) bit ok h = pending-settled s _ _ s.reported bit h
reported_pending s (set_auto_clear word) bit ok h =
    let ready = pending-before s bit ok h in record { cause = ready.cause; mask = ready.mask }
reported_pending s (set_auto_mask word) bit ok h =
    let ready = pending-before s bit ok h in record { cause = ready.cause; mask = ready.mask }
reported_pending s (message eiame misc) bit ok h = pending-after_message_of s eiame (next_bit s misc) bit ok h
reported_pending s reset bit ok h = absurd (false≢true (sym (contains-no_bits bit) ∙ h))
