-- The interrupts of one group, and how each access changes them.
use Rattle.std.specs.Prelude.{ℕ, Bool, not, ◌&&◌, Option, None, Some, is_some}
use Rattle.std.specs.Option.{option_and_then}
use Rattle.intr_unit.specs.declared.group.Group.{Group}
use Rattle.intr_unit.specs.BitSet.{BitSet, no_bits, contains, bits_where, union, intersection, difference, when, only}
use Rattle.intr_unit.specs.BitSet.{lowest_of, IsSubset}
use Rattle.intr_unit.specs.Group.{group_bits, bits_cleared_by_read, vector_of}

-- The words of a group as sets of bits, and the bits that messages have reported.
pub record Interrupts : Type 0 where
  pub group : Group
  pub causes : BitSet
  pub enabled : BitSet
  pub auto_clear : BitSet
  pub auto_mask : BitSet
  pub reported : BitSet

-- Between calls, each word has only bits of the group, and the cause and the mask of each reported bit are 1.
pub record IsConsistent (s : Interrupts) : Type 0 where
  pub causes_exist : IsSubset s.causes (group_bits s.group)
  pub masks_exist : IsSubset s.enabled (group_bits s.group)
  pub auto_clear_exists : IsSubset s.auto_clear (group_bits s.group)
  pub auto_mask_exists : IsSubset s.auto_mask (group_bits s.group)
  pub reported_is_pending : IsSubset s.reported (intersection s.causes s.enabled)

-- A group with all words 0 and no reported bits.
abbrev pub reset_of : Group → Interrupts
reset_of group =
    record {
      group = group;
      causes = no_bits;
      enabled = no_bits;
      auto_clear = no_bits;
      auto_mask = no_bits;
      reported = no_bits;
    }

-- A group with the given words and reported bits. Bits that the group doesn't have are dropped. Reported bits whose
-- cause or mask is 0 are dropped too.
abbrev pub of_words : Group → (causes enabled auto_clear auto_mask reported : ℕ) → Interrupts
of_words group causes enabled auto_clear auto_mask reported =
    let bits = group_bits group in
    record {
      group = group;
      causes = intersection causes bits;
      enabled = intersection enabled bits;
      auto_clear = intersection auto_clear bits;
      auto_mask = intersection auto_mask bits;
      reported = intersection reported (intersection (intersection causes bits) (intersection enabled bits));
    }

-- The group with these causes and masks. A bit whose cause or mask is 0 is no longer reported.
abbrev pub settled : Interrupts → BitSet → BitSet → BitSet → Interrupts
settled s causes enabled reported =
    record s { causes = causes; enabled = enabled; reported = intersection reported (intersection causes enabled) }

-- The given bits that are in the auto-mask, if the auto-mask acts; otherwise no bits.
abbrev pub auto_masked : Interrupts → BitSet → Bool → BitSet
auto_masked s bits auto = when auto (intersection bits s.auto_mask)

-- After a raise: these causes are set. If the auto-mask acts, the masks of these causes in the auto-mask are set.
abbrev pub raised : Interrupts → BitSet → Bool → Interrupts
raised s bits auto =
    settled s
    (union s.causes (intersection bits (group_bits s.group)))
    (union s.enabled (auto_masked s bits auto))
    s.reported

-- After a read: causes are cleared. If the auto-mask acts, the masks in the auto-mask are cleared.
abbrev pub after_read : Interrupts → Bool → Bool → Interrupts
after_read s ocd auto =
    settled s
    (difference s.causes (bits_cleared_by_read s.group ocd))
    (difference s.enabled (when auto s.auto_mask))
    s.reported

-- After a write of ones: these causes are cleared. If the auto-mask acts, the masks of these causes in the auto-mask
-- are cleared.
abbrev pub after_write_one : Interrupts → BitSet → Bool → Interrupts
after_write_one s bits auto =
    settled s (difference s.causes bits) (difference s.enabled (auto_masked s bits auto)) s.reported

-- After a mask set: these masks are set.
abbrev pub after_mask_set : Interrupts → BitSet → Interrupts
after_mask_set s bits = settled s s.causes (union s.enabled (intersection bits (group_bits s.group))) s.reported

-- After a mask clear: these masks are cleared.
abbrev pub after_mask_clear : Interrupts → BitSet → Interrupts
after_mask_clear s bits = settled s s.causes (difference s.enabled bits) s.reported

-- After a write to the auto-clear register.
abbrev pub with_auto_clear : Interrupts → BitSet → Interrupts
with_auto_clear s word = record s { auto_clear = intersection word (group_bits s.group) }

-- After a write to the auto-mask register.
abbrev pub with_auto_mask : Interrupts → BitSet → Interrupts
with_auto_mask s word = record s { auto_mask = intersection word (group_bits s.group) }

-- Whether the bit is due: its cause and its mask are 1, the bit isn't reported, and the bit is routed.
abbrev pub is_due : Interrupts → ℕ → ℕ → Bool
is_due s misc bit =
    contains s.causes bit && contains s.enabled bit && not (contains s.reported bit)
    && is_some (vector_of s.group misc bit)

-- The due bits.
unfoldable pub due_bits : Interrupts → ℕ → BitSet
due_bits s misc = bits_where (is_due s misc)

-- The bit that is reported next: the lowest due bit.
unfoldable pub next_bit : Interrupts → ℕ → Option ℕ
next_bit s misc = lowest_of (due_bits s misc)

-- The vector of the next message.
abbrev pub next_vector : Interrupts → ℕ → Option ℕ
next_vector s misc = option_and_then (vector_of s.group misc) (next_bit s misc)

-- After the bit is reported: the bit's cause is cleared if the bit is in the auto-clear. The bit's mask is cleared if
-- EIAME is 1 and the bit is in the auto-mask.
abbrev pub after_telling : Interrupts → Bool → ℕ → Interrupts
after_telling s eiame bit =
    settled s
    (difference s.causes (intersection (only bit) s.auto_clear))
    (difference s.enabled (auto_masked s (only bit) eiame))
    (union s.reported (only bit))

-- The group after a message for this bit. If there is no bit, the group is unchanged.
abbrev pub after_message_of : Interrupts → Bool → Option ℕ → Interrupts
after_message_of s eiame None = s
after_message_of s eiame (Some bit) = after_telling s eiame bit

-- After the next message.
abbrev pub after_message : Interrupts → Bool → ℕ → Interrupts
after_message s eiame misc = after_message_of s eiame (next_bit s misc)
