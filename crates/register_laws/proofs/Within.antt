-- Lemmas about what each operation changes.
use Rattle.std.proofs.Common.{◌≡◌, ℕ, ◌+◌, ◌%◌, ◌^◌, false, refl, ap, sym, ◌∙◌, subst}
use Rattle.register_file.specs.Queue.{head_row, enable_row, with_head, switched, switched_on, switched_off, shut}
use Rattle.register_file.specs.declared.owner.Owner.TheVariants as owner
use Rattle.register_laws.specs.Prelude.{Dir, Eerd, Group, Place, Registers, RowId, Rx, Tx, after_read, bumped}
use Rattle.register_laws.specs.Prelude.{causes_raised, counted, counted_wrapping, eeprom_answered, is_owner, is_wanted}
use Rattle.register_laws.specs.Prelude.{message_made, owner_of, place, queue_raised, row_of, word_of}
use Rattle.register_laws.specs.Footprint.{ChangesWithin, Covers, of_owner, the_word, the_enable, pending, of_side, of_read, of_write}
use Rattle.register_laws.specs.Laws.{after_write}
use Rattle.register_laws.proofs.Footprints.{within-trans, within-wider, within-if, covers-the_enable}
use Rattle.register_laws.proofs.GroupChanges.{change-causes_raised, change-message_made}
use Rattle.register_laws.proofs.Owners.{is_owner-itself, is_place-itself}
use Rattle.register_laws.proofs.WithinParts.{within-put, within-with_wanted, within-word, within-change}
use Rattle.register_laws.proofs.Keeps.{keeps}

pub within-causes_raised : (r : Registers) (g : Group) (bits : ℕ) → ChangesWithin (pending g) r (causes_raised r g bits)
within-causes_raised r g bits = within-change r g _ (change-causes_raised r g bits)

pub within-queue_raised : (r : Registers) (g : Group) (dir : Dir) (queue : ℕ)
    → ChangesWithin (pending g) r (queue_raised r g dir queue)
within-queue_raised r g dir queue = within-causes_raised r g _

pub within-message_made : (r : Registers) (g : Group) → ChangesWithin (pending g) r (message_made r g)
within-message_made r g = within-change r g _ (change-message_made r g)

-- Accesses.
pub within-after_read : (r : Registers) (p : Place) → ChangesWithin (of_read p) r (after_read (row_of p.row).kind r p)
within-after_read r p = (keeps (row_of p.row).kind).read.within r p

pub within-written : (r : Registers) (p : Place) (view word : ℕ)
    → ChangesWithin (of_write p) r (after_write r p view word)
within-written r p view word = (keeps (row_of p.row).kind).write.within r p view word

-- Device counts, EEPROM replies, and changes of sides.
pub within-answered : (r : Registers) (word : ℕ) → ChangesWithin (the_word (place Eerd 0)) r (eeprom_answered r word)
within-answered r word = within-word r Eerd 0 _

pub within-counted : (r : Registers) (row : RowId) (index : ℕ)
    → ChangesWithin (the_word (place row index)) r (counted r row index)
within-counted r row index = within-word r row index (bumped (word_of r row index))

pub within-counted_wrapping : (r : Registers) (row : RowId) (index : ℕ)
    → ChangesWithin (the_word (place row index)) r (counted_wrapping r row index)
within-counted_wrapping r row index = within-word r row index ((word_of r row index + 1) % 2 ^ 32)

pub within-with_head : (r : Registers) (dir : Dir) (queue head : ℕ)
    → ChangesWithin (the_word (place (head_row dir) queue)) r (with_head r dir queue head)
within-with_head r dir queue head = within-word r (head_row dir) queue head

pub within-switched : (r : Registers) (dir : Dir) (queue : ℕ)
    → ChangesWithin (the_word (place (enable_row dir) queue)) r (switched r dir queue)
within-switched r dir queue =
    within-if (the_word (place (enable_row dir) queue)) (is_wanted r dir queue) r (switched_on r dir queue)
    (switched_off r dir queue)
    (within-word r (enable_row dir) queue _) (within-word r (enable_row dir) queue _)

enable_owner : (dir : Dir) (queue : ℕ) → owner_of (place (enable_row dir) queue) ≡ owner.Side dir queue
enable_owner Rx queue = refl
enable_owner Tx queue = refl

-- A fault changes only what a write to the side's enable word may change.
pub within-shut_enable : (r : Registers) (dir : Dir) (queue : ℕ)
    → ChangesWithin (the_enable (place (enable_row dir) queue)) r (shut r dir queue)
within-shut_enable r dir queue =
    let p : Place = place (enable_row dir) queue in
    within-trans (the_enable p) r (switched_off r dir queue) (shut r dir queue)
    (within-put (the_enable p) r p _ (λ bit. is_place-itself p))
    (within-with_wanted (the_enable p) (switched_off r dir queue) dir queue false
    (ap (λ o. is_owner (owner_of p) o) (sym (enable_owner dir queue)) ∙ is_owner-itself (owner_of p)))

pub within-shut : (r : Registers) (dir : Dir) (queue : ℕ) → ChangesWithin (of_side dir queue) r (shut r dir queue)
within-shut r dir queue =
    let p : Place = place (enable_row dir) queue in
    within-wider (of_side dir queue) (the_enable p) r (shut r dir queue)
    (subst (λ o. Covers (of_owner o) (the_enable p)) (enable_owner dir queue) (covers-the_enable p))
    (within-shut_enable r dir queue)

-- The footprint of each change.
pub ruleset changes_within = (
  within-after_read,
  within-written,
  within-counted,
  within-counted_wrapping,
  within-answered,
  within-causes_raised,
  within-queue_raised,
  within-message_made,
  within-with_head,
  within-switched,
  within-shut_enable,
)
