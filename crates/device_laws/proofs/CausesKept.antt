-- A change to a word outside every group leaves the groups' interrupt state unchanged.
use Rattle.std.proofs.Common.{◌≡◌, ℕ, false, Option, Some, None, refl, ap}
use Rattle.nic_device.specs.RegisterFile.declared.owner.Owner.TheVariants as owner
use Rattle.nic_device.proofs.RegisterLaws.Footprints.{misses-narrower, misses-owner, covers-the_word}
use Rattle.nic_device.proofs.RegisterLaws.WithinParts.{within-word}
use Rattle.device_laws.specs.Prelude.{Dir, Group, HasShape, Place, Registers, RowId, Rx, Tx, VfCounters}
use Rattle.device_laws.specs.Prelude.{function_counted, head_row, interrupts_of, is_owner, of_group, of_owner, of_side}
use Rattle.device_laws.specs.Prelude.{owner_in, owner_of, place, row_of, shut, the_word, with_head, with_word}
use Rattle.device_laws.proofs.Prelude.{HasShape-put, group_stands, within-shut}

-- The word of a register outside every group changes.
pub word_kept : (r : Registers) (p : Place) (word : ℕ) (g : Group) → is_owner (owner_of p) (owner.Group g) ≡ false
    → interrupts_of (with_word r p.row p.index word) g ≡ interrupts_of r g
word_kept r p word g other =
    group_stands (the_word p) r (with_word r p.row p.index word) g
    (misses-narrower (of_owner (owner_of p)) (the_word p) (of_group g) (covers-the_word p)
    (misses-owner (owner_of p) (owner.Group g) other))
    (within-word r p.row p.index word)

pub shut_kept : (r : Registers) (dir : Dir) (queue : ℕ) (g : Group)
    → interrupts_of (shut r dir queue) g ≡ interrupts_of r g
shut_kept r dir queue g =
    group_stands (of_side dir queue) r (shut r dir queue) g
    (misses-owner (owner.Side dir queue) (owner.Group g) refl) (within-shut r dir queue)

-- A frame of a virtual function is counted.
pub function_kept : (r : Registers) (o : Option ℕ) (row : RowId) → (row_of row).bank ≡ VfCounters → (g : Group)
    → interrupts_of (function_counted r o row) g ≡ interrupts_of r g
function_kept r None row is g = refl
function_kept r (Some v) row is g =
    word_kept r (place row v) _ g (ap (λ b. is_owner (owner_in b v) (owner.Group g)) is)

pub function_shape : (r : Registers) (o : Option ℕ) (row : RowId) → HasShape r → HasShape (function_counted r o row)
function_shape r None row h = h
function_shape r (Some v) row h = HasShape-put r (place row v) _ h

pub head_kept : (r : Registers) (dir : Dir) (queue head : ℕ) (g : Group)
    → interrupts_of (with_head r dir queue head) g ≡ interrupts_of r g
head_kept r Rx queue head g = word_kept r (place (head_row Rx) queue) head g refl
head_kept r Tx queue head g = word_kept r (place (head_row Tx) queue) head g refl
