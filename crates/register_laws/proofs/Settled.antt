-- Accesses to a group leave interrupts that are consistent 32-bit words.
use Rattle.std.proofs.Common.{ℕ, ◌<◌, ◌^◌, Bool, Option, Some, None}
use Rattle.register_file.specs.IntrUnit.BitSet.{BitSet, union, intersection, difference, only, IsSubset}
use Rattle.register_file.specs.IntrUnit.Interrupts.{Interrupts, IsConsistent, of_words, settled, auto_masked, raised, after_read, after_write_one, after_mask_set, after_mask_clear, after_message_of}
use Rattle.register_file.proofs.IntrUnit.SetLaws.{bits_where-lt}
use Rattle.register_file.proofs.IntrUnit.Subsets.{IsSubset-itself, IsSubset-union, IsSubset-intersection_right, IsSubset-difference, IsSubset-when}
use Rattle.register_file.proofs.Own.{intersection-lt}
use Rattle.register_laws.specs.Prelude.{Group, group_bits}

-- Interrupts that can be stored in a group's registers.
pub record IsSettled (s : Interrupts) : Type 0 where
  pub consistent : IsConsistent s
  pub causes : s.causes < 2 ^ 32
  pub enabled : s.enabled < 2 ^ 32

union-lt : (a b : BitSet) → union a b < 2 ^ 32
unfolding union
union-lt a b = bits_where-lt _

difference-lt : (a b : BitSet) → difference a b < 2 ^ 32
unfolding difference
difference-lt a b = bits_where-lt _

pub settled-of_words : (g : Group) (causes enabled auto_clear auto_mask reported : ℕ)
    → IsSettled (of_words g causes enabled auto_clear auto_mask reported)
settled-of_words g causes enabled auto_clear auto_mask reported =
    let bits = group_bits g in
    record {
      consistent = record {
        causes_exist = IsSubset-intersection_right causes bits bits (IsSubset-itself bits);
        masks_exist = IsSubset-intersection_right enabled bits bits (IsSubset-itself bits);
        auto_clear_exists = IsSubset-intersection_right auto_clear bits bits (IsSubset-itself bits);
        auto_mask_exists = IsSubset-intersection_right auto_mask bits bits (IsSubset-itself bits);
        reported_is_pending = IsSubset-intersection_right reported _ _ (IsSubset-itself _);
      };
      causes = intersection-lt causes bits;
      enabled = intersection-lt enabled bits;
    }

settle : (s : Interrupts) (causes enabled reported : BitSet) → IsConsistent s → IsSubset causes (group_bits s.group)
    → IsSubset enabled (group_bits s.group) → causes < 2 ^ 32 → enabled < 2 ^ 32 → IsSettled
    (settled s causes enabled reported)
settle s causes enabled reported c causes_exist masks_exist small_causes small_enabled =
    let both = intersection causes enabled in
    assumption (IsSubset-intersection_right reported both both (IsSubset-itself both))

module _ (s : Interrupts) (is : IsSettled s) where
  fewer : (set gone : BitSet) → IsSubset set (group_bits s.group) → IsSubset (difference set gone) (group_bits s.group)
  fewer set gone within = IsSubset-difference set gone (group_bits s.group) within

  more : (set new : BitSet) → IsSubset set (group_bits s.group) → IsSubset new (group_bits s.group)
      → IsSubset (union set new) (group_bits s.group)
  more set new within new_within = IsSubset-union set new (group_bits s.group) within new_within

  own : (set : BitSet) → IsSubset (intersection set (group_bits s.group)) (group_bits s.group)
  own set =
      IsSubset-intersection_right set (group_bits s.group) (group_bits s.group) (IsSubset-itself (group_bits s.group))

  pub settled-raised : (set : BitSet) (auto : Bool) → IsSettled (raised s set auto)
  settled-raised set auto =
      settle s _ _ s.reported is.consistent
      (more s.causes (intersection set (group_bits s.group)) is.consistent.causes_exist (own set))
      (more s.enabled (auto_masked s set auto) is.consistent.masks_exist
      (IsSubset-when auto (intersection set s.auto_mask) (group_bits s.group)
      (IsSubset-intersection_right set s.auto_mask (group_bits s.group) is.consistent.auto_mask_exists)))
      (union-lt _ _) (union-lt _ _)

  pub settled-after_read : (ocd auto : Bool) → IsSettled (after_read s ocd auto)
  settled-after_read ocd auto =
      settle s _ _ s.reported is.consistent (fewer s.causes _ is.consistent.causes_exist)
      (fewer s.enabled _ is.consistent.masks_exist) (difference-lt _ _) (difference-lt _ _)

  pub settled-after_write_one : (set : BitSet) (auto : Bool) → IsSettled (after_write_one s set auto)
  settled-after_write_one set auto =
      settle s _ _ s.reported is.consistent (fewer s.causes _ is.consistent.causes_exist)
      (fewer s.enabled _ is.consistent.masks_exist) (difference-lt _ _) (difference-lt _ _)

  pub settled-after_mask_set : (set : BitSet) → IsSettled (after_mask_set s set)
  settled-after_mask_set set =
      settle s _ _ s.reported is.consistent is.consistent.causes_exist
      (more s.enabled (intersection set (group_bits s.group)) is.consistent.masks_exist (own set)) is.causes
      (union-lt _ _)

  pub settled-after_mask_clear : (set : BitSet) → IsSettled (after_mask_clear s set)
  settled-after_mask_clear set =
      settle s _ _ s.reported is.consistent is.consistent.causes_exist (fewer s.enabled set is.consistent.masks_exist)
      is.causes (difference-lt _ _)

  pub settled-after_message_of : (eiame : Bool) (next : Option ℕ) → IsSettled (after_message_of s eiame next)
  settled-after_message_of eiame None = is
  settled-after_message_of eiame (Some bit) =
      settle s _ _ (union s.reported (only bit)) is.consistent (fewer s.causes _ is.consistent.causes_exist)
      (fewer s.enabled _ is.consistent.masks_exist) (difference-lt _ _) (difference-lt _ _)
