-- Each access to a group and each step for a group stores settled interrupts in the group's registers.
use Rattle.std.proofs.Common.{◌≡◌, ℕ, Bool, true, false, cond, Option, Some, None, refl}
use Rattle.std.specs.Prelude.{is_some}
use Rattle.register_file.specs.RegTable.declared.rows.RowId.TheVariants.{IvarMisc}
use Rattle.register_file.specs.IntrUnit.Interrupts.{Interrupts, after_message_of, next_bit}
use Rattle.register_file.specs.Access.{group_read, causes_written, masks_set, causes_set, masks_cleared}
use Rattle.register_file.specs.Groups.{cause_row, mask_row, auto_clear_row, auto_mask_row, index_of, reported_by, interrupts_of, with_interrupts, clears_others, masks_by_message, auto_masks, causes_raised, message_of, message_made}
use Rattle.register_laws.specs.Prelude.{Group, Registers, word_of}
use Rattle.register_laws.proofs.Settled.{IsSettled, settled-of_words, settled-raised, settled-after_read, settled-after_write_one, settled-after_mask_set, settled-after_mask_clear, settled-after_message_of}

-- The registers are unchanged, or contain other interrupts for the group.
pub data GroupChange (r : Registers) (g : Group) : Registers → Type 0 where
  kept : GroupChange r g r
  changed : (made : Interrupts) → made.group ≡ g → IsSettled made → GroupChange r g (with_interrupts r made)

pub settled : (r : Registers) (g : Group) → IsSettled (interrupts_of r g)
settled r g =
    settled-of_words g (word_of r (cause_row g) (index_of g)) (word_of r (mask_row g) (index_of g))
    (word_of r (auto_clear_row g) (index_of g)) (word_of r (auto_mask_row g) (index_of g)) (reported_by r g)

pub change-group_read : (r : Registers) (g : Group) → GroupChange r g (group_read r g)
change-group_read r g =
    changed _ refl (settled-after_read (interrupts_of r g) (settled r g) (clears_others r) (auto_masks r g))

-- A change of a group's interrupts with some bits.
abbrev pub ChangesGroup : (Registers → Group → ℕ → Registers) → Type 0
ChangesGroup change = (r : Registers) (g : Group) (bits : ℕ) → GroupChange r g (change r g bits)

pub change-causes_written : ChangesGroup causes_written
change-causes_written r g bits =
    changed _ refl (settled-after_write_one (interrupts_of r g) (settled r g) bits (auto_masks r g))

pub change-masks_set : ChangesGroup masks_set
change-masks_set r g bits = changed _ refl (settled-after_mask_set (interrupts_of r g) (settled r g) bits)

pub change-causes_set : ChangesGroup causes_set
change-causes_set r g bits = changed _ refl (settled-raised (interrupts_of r g) (settled r g) bits (auto_masks r g))

pub change-masks_cleared : ChangesGroup masks_cleared
change-masks_cleared r g bits = changed _ refl (settled-after_mask_clear (interrupts_of r g) (settled r g) bits)

pub change-causes_raised : (r : Registers) (g : Group) (bits : ℕ) → GroupChange r g (causes_raised r g bits)
change-causes_raised r g bits = changed _ refl (settled-raised (interrupts_of r g) (settled r g) bits false)

group_reported : (s : Interrupts) (eiame : Bool) (next : Option ℕ) → (after_message_of s eiame next).group ≡ s.group
group_reported s eiame None = refl
group_reported s eiame (Some bit) = refl

change-if : (b : Bool) (r s : Registers) (g : Group) → GroupChange r g s → GroupChange r g (cond b s r)
change-if true r s g change = change
change-if false r s g change = kept

pub change-message_made : (r : Registers) (g : Group) → GroupChange r g (message_made r g)
change-message_made r g =
    let s : Interrupts = interrupts_of r g in
    let next : Option ℕ = next_bit s (word_of r IvarMisc 0) in
    change-if (is_some (message_of r g)) r _ g
    (changed (after_message_of s (masks_by_message r) next) (group_reported s (masks_by_message r) next)
    (settled-after_message_of s (settled r g) (masks_by_message r) next))
