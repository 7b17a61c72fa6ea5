-- Registers stay sound.
use Rattle.std.proofs.Common.{◌≡◌, ℕ, ◌<◌, ◌^◌, false, refl, ap, sym, ◌∙◌, subst, arith}
use Rattle.register_file.specs.RegTable.declared.kind.Kind.TheVariants as kind
use Rattle.register_file.specs.Queue.{head_row, enable_row, with_head, switched, switched_on, switched_off, shut}
use Rattle.register_laws.specs.Prelude.{Dir, Eerd, Group, IsSubset, Kind, Place, Registers, RowId, Rx, Tx, after_read}
use Rattle.register_laws.specs.Prelude.{causes_raised, counted, counted_wrapping, eeprom_answered, is_wanted}
use Rattle.register_laws.specs.Prelude.{message_made, place, queue_raised, row_of, word_of}
use Rattle.register_laws.specs.Footprint.{is_pending}
use Rattle.register_laws.specs.Laws.{after_write}
use Rattle.register_laws.specs.Sound.{AreSound, bits_of_kind, bits_of_row}
use Rattle.register_laws.proofs.GroupChanges.{change-causes_raised, change-message_made}
use Rattle.register_laws.proofs.Holders.{is_mail}
use Rattle.register_laws.proofs.RowBits.{IsSubset-ones, within_row, word_small}
use Rattle.register_laws.proofs.Small.{answer-lt, bit_set-lt, bit_cleared-lt}
pub use Rattle.register_laws.proofs.Small.{bumped-lt}
pub use Rattle.register_laws.proofs.SoundReset.{sound-reset}
use Rattle.register_laws.proofs.SoundParts.{plain, sound-put, sound-with_wanted, sound-if, sound-change}
use Rattle.register_laws.proofs.Keeps.{keeps}

pub sound-causes_raised : (r : Registers) (g : Group) (bits : ℕ) → AreSound r → AreSound (causes_raised r g bits)
sound-causes_raised r g bits sound = sound-change r g _ sound (change-causes_raised r g bits)

pub sound-queue_raised : (r : Registers) (g : Group) (dir : Dir) (queue : ℕ) → AreSound r
    → AreSound (queue_raised r g dir queue)
sound-queue_raised r g dir queue sound = sound-causes_raised r g _ sound

pub sound-message_made : (r : Registers) (g : Group) → AreSound r → AreSound (message_made r g)
sound-message_made r g sound = sound-change r g _ sound (change-message_made r g)

-- Accesses.
pub sound-after_read : (r : Registers) (p : Place) → AreSound r → AreSound (after_read (row_of p.row).kind r p)
sound-after_read r p sound = (keeps (row_of p.row).kind).read.sound r p refl sound

pub sound-written : (r : Registers) (p : Place) (view word : ℕ) → AreSound r → AreSound (after_write r p view word)
sound-written r p view word sound = (keeps (row_of p.row).kind).write.sound r p refl sound view word

-- Device counts, EEPROM replies, and changes of sides.
pub sound-answered : (r : Registers) (word : ℕ) → word < 2 ^ 16 → AreSound r → AreSound (eeprom_answered r word)
sound-answered r word small sound =
    sound-put r (place Eerd 0) _ sound (IsSubset-ones 32 _ (answer-lt (word_of r Eerd 0) word small)) refl
    (plain false _ refl)

counter_bits : (k : Kind) (row : RowId) (word : ℕ) → (row_of row).kind ≡ k
    → bits_of_kind k (row_of row).mask ≡ 0xFFFFFFFF → word < 2 ^ 32 → IsSubset word (bits_of_row row)
counter_bits k row word e all small =
    within_row row word (subst (IsSubset word) (sym (ap (λ j. bits_of_kind j (row_of row).mask) e ∙ all))
    (IsSubset-ones 32 word small))

pub sound-counted : (r : Registers) (row : RowId) (index : ℕ) → (row_of row).kind ≡ kind.Rc → AreSound r
    → AreSound (counted r row index)
sound-counted r row index e sound =
    sound-put r (place row index) _ sound
    (counter_bits kind.Rc row _ e refl (bumped-lt _ (word_small r sound (place row index)))) (ap is_pending e)
    (plain _ _ (ap is_mail e))

pub sound-counted_wrapping : (r : Registers) (row : RowId) (index : ℕ) → (row_of row).kind ≡ kind.Ro → AreSound r
    → AreSound (counted_wrapping r row index)
sound-counted_wrapping r row index e sound =
    sound-put r (place row index) _ sound (counter_bits kind.Ro row _ e refl (omega arith)) (ap is_pending e)
    (plain _ _ (ap is_mail e))

head_steady : (dir : Dir) → is_pending (row_of (head_row dir)).kind ≡ false
head_steady Rx = refl
head_steady Tx = refl

head_other : (dir : Dir) → is_mail (row_of (head_row dir)).kind ≡ false
head_other Rx = refl
head_other Tx = refl

head_bits : (dir : Dir) (head : ℕ) → head < 2 ^ 16 → IsSubset head (bits_of_row (head_row dir))
head_bits Rx head small = IsSubset-ones 16 head small
head_bits Tx head small = IsSubset-ones 16 head small

enable_steady : (dir : Dir) → is_pending (row_of (enable_row dir)).kind ≡ false
enable_steady Rx = refl
enable_steady Tx = refl

enable_other : (dir : Dir) → is_mail (row_of (enable_row dir)).kind ≡ false
enable_other Rx = refl
enable_other Tx = refl

enable_bits : (dir : Dir) (word : ℕ) → word < 2 ^ 32 → IsSubset word (bits_of_row (enable_row dir))
enable_bits Rx word small = IsSubset-ones 32 word small
enable_bits Tx word small = IsSubset-ones 32 word small

pub sound-with_head : (r : Registers) (dir : Dir) (queue head : ℕ) → AreSound r → head < 2 ^ 16
    → AreSound (with_head r dir queue head)
sound-with_head r dir queue head sound small =
    sound-put r (place (head_row dir) queue) head sound (head_bits dir head small) (head_steady dir)
    (plain _ head (head_other dir))

sound-switched_off : (r : Registers) (dir : Dir) (queue : ℕ) → AreSound r → AreSound (switched_off r dir queue)
sound-switched_off r dir queue sound =
    let p : Place = place (enable_row dir) queue in
    sound-put r p _ sound (enable_bits dir _ (bit_cleared-lt _ (word_small r sound p))) (enable_steady dir)
    (plain _ _ (enable_other dir))

pub sound-switched : (r : Registers) (dir : Dir) (queue : ℕ) → AreSound r → AreSound (switched r dir queue)
sound-switched r dir queue sound =
    let p : Place = place (enable_row dir) queue in
    sound-if (is_wanted r dir queue) (switched_on r dir queue) (switched_off r dir queue)
    (sound-put r p _ sound (enable_bits dir _ (bit_set-lt _ (word_small r sound p))) (enable_steady dir)
    (plain _ _ (enable_other dir)))
    (sound-switched_off r dir queue sound)

pub sound-shut : (r : Registers) (dir : Dir) (queue : ℕ) → AreSound r → AreSound (shut r dir queue)
sound-shut r dir queue sound =
    sound-with_wanted (switched_off r dir queue) dir queue false (sound-switched_off r dir queue sound)
