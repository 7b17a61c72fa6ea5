-- What a driver can rely on, in terms of the registers' words.
use Rattle.std.specs.Prelude.{◌≡◌, ◌≢◌, ℕ, ◌^◌, ◌<◌, ◌≤◌, ◌==◌, Bool, false, not, ◌&&◌, ◌||◌, nat_le, IsTrue, IsFalse}
use Rattle.std.specs.Prelude.{List, Some, None, IsSome}
use Rattle.intr_unit.specs.declared.group.Group.{Group}
use Rattle.intr_unit.specs.declared.group.Group.TheVariants.{Pf, Vf}
use Rattle.intr_unit.specs.BitSet.{BitSet, contains, bits_where}
use Rattle.intr_unit.specs.Group.{group_bits, vector_of}
use Rattle.intr_unit.specs.Interrupts.{Interrupts, IsConsistent, raised, after_read, after_write_one, after_mask_set}
use Rattle.intr_unit.specs.Interrupts.{after_mask_clear, with_auto_clear, with_auto_mask, after_message}
use Rattle.intr_unit.specs.Interrupts.{is_due, next_bit, next_vector}
use Rattle.intr_unit.specs.Accesses.{Access, after, after_all, IsPending, StaysPending}

-- A set that is defined by a test contains exactly the bits 0 to 31 that pass the test. The bits of a 32-bit word
-- determine the word.
pub record SetsHoldTheirBits : Type 0 where
  pub member : (test : ℕ → Bool) (bit : ℕ) → bit < 32 → contains (bits_where test) bit ≡ test bit
  pub same : (left right : BitSet) → left < 2 ^ 32 → right < 2 ^ 32 →
      ((bit : ℕ) → bit < 32 → contains left bit ≡ contains right bit) → left ≡ right

-- The bit's cause and mask are 1, the bit isn't reported, and this is the bit's vector.
pub record IsDueBy (s : Interrupts) (misc bit vector : ℕ) : Type 0 where
  pub cause : IsTrue (contains s.causes bit)
  pub mask : IsTrue (contains s.enabled bit)
  pub unreported : IsFalse (contains s.reported bit)
  pub routed : vector_of s.group misc bit ≡ Some vector

-- The message with this vector is for this bit, which is the lowest due bit.
pub record IsMessageOf (s : Interrupts) (misc vector bit : ℕ) : Type 0 where
  pub within : bit < 32
  pub due : IsDueBy s misc bit vector
  pub lowest : (other : ℕ) → IsTrue (is_due s misc other) → bit ≤ other

-- Each message reports the lowest due bit. A bit is due if its cause and its mask are 1, the bit isn't reported, and
-- the bit is routed. If there is no message, no bit is due.
pub record MessagesTellDueBits : Type 0 where
  pub reported : (s : Interrupts) (misc vector : ℕ) → next_vector s misc ≡ Some vector →
      (bit : ℕ) × IsMessageOf s misc vector bit
  pub idle : (s : Interrupts) (misc bit : ℕ) → next_vector s misc ≡ None → bit < 32 → IsFalse (is_due s misc bit)

-- After a message reports a bit, no other message reports that bit while the bit's cause and mask stay 1.
abbrev pub BitsAreReportedOnce : Type 0
BitsAreReportedOnce =
    (s : Interrupts) (eiame : Bool) (misc bit : ℕ) → next_bit s misc ≡ Some bit →
    (run : List Access) → StaysPending (after_message s eiame misc) run bit →
    (misc_then : ℕ) → next_bit (after_all (after_message s eiame misc) run) misc_then ≢ Some bit

-- Clearing masks loses no cause. Suppose that the same masks are set again, with no other event in between. Each bit
-- whose mask was set again is then due if its cause is 1 and it has a vector, even if it was reported before.
pub record MaskingLosesNoCause : Type 0 where
  pub causes : (s : Interrupts) (bits : BitSet) → (after_mask_clear s bits).causes ≡ s.causes
  pub due_again : (s : Interrupts) (bits : BitSet) (misc bit : ℕ) → bit < 32 →
      IsTrue (contains (group_bits s.group) bit) → IsTrue (contains s.causes bit) → IsTrue (contains bits bit) →
      IsSome (vector_of s.group misc bit) →
      IsTrue (is_due (after_mask_set (after_mask_clear s bits) bits) misc bit)

-- For each bit: whether the bit's cause is 1, whether its mask is 1, and whether the bit is marked as reported.
pub record Bits : Type 0 where
  pub cause : ℕ → Bool
  pub mask : ℕ → Bool
  pub mark : ℕ → Bool

-- After a call, the group has these causes and masks. Of these marks, the group keeps only the marks of bits whose
-- cause and mask are 1. The auto-clear and the auto-mask are unchanged.
pub record Leaves (before left : Interrupts) (bits : Bits) : Type 0 where
  pub causes : (bit : ℕ) → bit < 32 → contains left.causes bit ≡ bits.cause bit
  pub masks : (bit : ℕ) → bit < 32 → contains left.enabled bit ≡ bits.mask bit
  pub reported : (bit : ℕ) → bit < 32 → contains left.reported bit ≡ (bits.mark bit && bits.cause bit && bits.mask bit)
  pub auto_clear : left.auto_clear ≡ before.auto_clear
  pub auto_mask : left.auto_mask ≡ before.auto_mask

-- The effect of a raise on each bit: the raised causes that belong to the group are set. If the auto-mask acts, the
-- masks of the raised bits in the auto-mask become 1. A reported bit stays reported if its cause and mask are 1.
abbrev pub RaisesChangeBits : Type 0
RaisesChangeBits =
    (s : Interrupts) (raise : BitSet) (auto : Bool) → Leaves s (raised s raise auto)
    (record {
      cause = λ bit. contains s.causes bit || (contains raise bit && contains (group_bits s.group) bit);
      mask = λ bit. contains s.enabled bit || (auto && contains raise bit && contains s.auto_mask bit);
      mark = λ bit. contains s.reported bit;
    })

-- Whether a read keeps a bit's cause: for the PF with other-cause clearing, if the bit is outside bits 29 to 16;
-- otherwise never.
abbrev pub keeps_cause : Group → Bool → ℕ → Bool
keeps_cause Pf ocd bit = ocd && not (nat_le 16 bit && nat_le bit 29)
keeps_cause (Vf v) ocd bit = false

-- The effect on each bit if the cause register of a consistent group is read: all causes are cleared; for the PF with
-- other-cause clearing, only bits 29 to 16. If the auto-mask acts, exactly the masks in the auto-mask are cleared. A
-- reported bit stays reported if its cause and mask are 1.
abbrev pub ReadsChangeBits : Type 0
ReadsChangeBits =
    (s : Interrupts) (ocd auto : Bool) → IsConsistent s → Leaves s (after_read s ocd auto)
    (record {
      cause = λ bit. contains s.causes bit && keeps_cause s.group ocd bit;
      mask = λ bit. contains s.enabled bit && not (auto && contains s.auto_mask bit);
      mark = λ bit. contains s.reported bit;
    })

-- The effect on each bit if ones are written to the cause register: the causes written as 1 are cleared. If the
-- auto-mask acts, the masks of these causes in the auto-mask are cleared. A reported bit stays reported if its cause
-- and mask are 1.
abbrev pub WritesOfOnesChangeBits : Type 0
WritesOfOnesChangeBits =
    (s : Interrupts) (ones : BitSet) (auto : Bool) → Leaves s (after_write_one s ones auto)
    (record {
      cause = λ bit. contains s.causes bit && not (contains ones bit);
      mask = λ bit. contains s.enabled bit && not (auto && contains ones bit && contains s.auto_mask bit);
      mark = λ bit. contains s.reported bit;
    })

-- A write to the mask register sets the masks written as 1 that the group has.
abbrev pub MaskSetsChangeBits : Type 0
MaskSetsChangeBits =
    (s : Interrupts) (ones : BitSet) → Leaves s (after_mask_set s ones)
    (record {
      cause = λ bit. contains s.causes bit;
      mask = λ bit. contains s.enabled bit || (contains ones bit && contains (group_bits s.group) bit);
      mark = λ bit. contains s.reported bit;
    })

-- A write to the mask clear register clears the masks written as 1.
abbrev pub MaskClearsChangeBits : Type 0
MaskClearsChangeBits =
    (s : Interrupts) (ones : BitSet) → Leaves s (after_mask_clear s ones)
    (record {
      cause = λ bit. contains s.causes bit;
      mask = λ bit. contains s.enabled bit && not (contains ones bit);
      mark = λ bit. contains s.reported bit;
    })

-- The bits after the chosen bit is reported: its cause becomes 0 if the bit is in the auto-clear. Its mask becomes 0 if
-- EIAME is 1 and the bit is in the auto-mask.
abbrev pub reported_bits : Interrupts → Bool → ℕ → Bits
reported_bits s eiame chosen =
    record {
      cause = λ bit. contains s.causes bit && not (bit == chosen && contains s.auto_clear bit);
      mask = λ bit. contains s.enabled bit && not (eiame && bit == chosen && contains s.auto_mask bit);
      mark = λ bit. contains s.reported bit || bit == chosen;
    }

-- The effect of a message on each bit: only the bit that the message reports changes. The bit's cause is cleared if the
-- bit is in the auto-clear. The bit's mask is cleared if EIAME is 1 and the bit is in the auto-mask. If there is no
-- message, nothing changes.
pub record MessagesChangeBits : Type 0 where
  pub reported : (s : Interrupts) (eiame : Bool) (misc vector chosen : ℕ) → IsMessageOf s misc vector chosen →
      Leaves s (after_message s eiame misc) (reported_bits s eiame chosen)
  pub idle : (s : Interrupts) (eiame : Bool) (misc : ℕ) → next_vector s misc ≡ None → after_message s eiame misc ≡ s

-- The effect on each bit if the auto-clear or the auto-mask is written: that register takes the written bits that the
-- group has, and nothing else changes.
pub record AutoWritesChangeBits : Type 0 where
  pub auto_clear : (s : Interrupts) (word : BitSet) (bit : ℕ) → bit < 32 →
      contains (with_auto_clear s word).auto_clear bit ≡ (contains word bit && contains (group_bits s.group) bit)
  pub auto_mask : (s : Interrupts) (word : BitSet) (bit : ℕ) → bit < 32 →
      contains (with_auto_mask s word).auto_mask bit ≡ (contains word bit && contains (group_bits s.group) bit)
  pub alone : (s : Interrupts) (clear mask : BitSet) →
      record (with_auto_clear s clear) { auto_clear = s.auto_clear } ≡ s
      × record (with_auto_mask s mask) { auto_mask = s.auto_mask } ≡ s

-- After each access to a consistent group, the cause and the mask of every reported bit are 1.
abbrev pub ReportedBitsArePending : Type 0
ReportedBitsArePending =
    (s : Interrupts) (access : Access) (bit : ℕ) → IsConsistent s → IsTrue (contains (after s access).reported bit) →
    IsPending (after s access) bit
