-- The interrupt groups, each updated in place.
use Rattle.std.specs.Prelude.{◌≡◌, ℕ, ◌<◌, List, map, length, slice_index_or, slice_set}
use Rattle.std.specs.List.{range_with_len}
use Rattle.intr_unit.specs.BitSet.{IsSubset}
use Rattle.intr_unit.specs.Group.{group_bits}
use Rattle.intr_unit.specs.Interrupts.{Interrupts, reset_of, of_words}
use Rattle.intr_unit.specs.declared.group.Group.{Group}
use Rattle.intr_unit.specs.declared.group.Group.TheVariants.{Pf, Vf}

-- The interrupts of the physical function and of each virtual function.
pub record AllGroups : Type 0 where
  pub pf : Interrupts
  pub vf : List Interrupts

-- The interrupts of a group, and all groups with the interrupts of one group replaced.
abbrev pub at_group : AllGroups → Group → Interrupts
at_group s Pf = s.pf
at_group s (Vf v) = slice_index_or s.vf v (reset_of (Vf v))

abbrev pub with_group : AllGroups → Group → Interrupts → AllGroups
with_group s Pf one = record s { pf = one }
with_group s (Vf v) one = record s { vf = slice_set s.vf v one }

-- Each group after a reset.
abbrev pub all_reset : AllGroups
all_reset = record { pf = reset_of Pf; vf = map (λ v. reset_of (Vf v)) (range_with_len 0 64) }

-- Every group is present, and each group's number is its position.
pub record AreNumbered (s : AllGroups) : Type 0 where
  pub all : length s.vf ≡ 64
  pub pf : s.pf.group ≡ Pf
  pub vf : (v : ℕ) → v < 64 → (at_group s (Vf v)).group ≡ Vf v

-- Interrupts that belong to a group and that the words of the group's registers and its reported bits determine.
pub record IsOwn (group : Group) (s : Interrupts) : Type 0 where
  pub of_group : s.group ≡ group
  pub by_words : of_words group s.causes s.enabled s.auto_clear s.auto_mask s.reported ≡ s
  pub auto_clear : IsSubset s.auto_clear (group_bits group)
  pub auto_mask : IsSubset s.auto_mask (group_bits group)
