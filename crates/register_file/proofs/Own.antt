-- The words of a group's registers determine the group's interrupts.
use Rattle.std.proofs.Common.{◌≡◌, ℕ, ◌^◌, ◌<◌, ◌&&◌, Bool, true, false, refl, ap, ◌∙◌}
use Rattle.intr_unit.specs.BitSet.{BitSet, contains, intersection, IsSubset}
use Rattle.intr_unit.specs.Group.{group_bits}
use Rattle.intr_unit.specs.Interrupts.{Interrupts, IsConsistent}
use Rattle.intr_unit.specs.declared.group.Group.{Group}
use Rattle.intr_unit.proofs.SetLaws.{same_bits, bits_where-lt, contains-intersection}
use Rattle.register_file.specs.AllGroups.{IsOwn}

pub intersection-lt : (a b : BitSet) → intersection a b < 2 ^ 32
unfolding intersection
intersection-lt a b = bits_where-lt _

-- Intersecting a set with a superset leaves it unchanged.
implied : (x y : Bool) → (x ≡ true → y ≡ true) → (x && y) ≡ x
implied true y h = h refl
implied false y h = refl

pub intersection-within : (inner outer : BitSet) → inner < 2 ^ 32 → IsSubset inner outer
    → intersection inner outer ≡ inner
intersection-within inner outer small within =
    same_bits (intersection inner outer) inner (intersection-lt inner outer) small
    (λ k b. contains-intersection inner outer k b ∙ implied (contains inner k) (contains outer k) (within.member k))

-- If interrupts are consistent and their words have 32 bits, these words determine the interrupts.
pub own_words : (s : Interrupts) → IsConsistent s → s.causes < 2 ^ 32 → s.enabled < 2 ^ 32 → s.auto_clear < 2 ^ 32
    → s.auto_mask < 2 ^ 32 → s.reported < 2 ^ 32 → IsOwn s.group s
own_words s c small_causes small_enabled small_clear small_mask small_reported =
    let bits = group_bits s.group in
    let causes = intersection-within s.causes bits small_causes c.causes_exist in
    let enabled = intersection-within s.enabled bits small_enabled c.masks_exist in
    let clear = intersection-within s.auto_clear bits small_clear c.auto_clear_exists in
    let mask = intersection-within s.auto_mask bits small_mask c.auto_mask_exists in
    let reported = (λ k. intersection s.reported (intersection (causes k) (enabled k)))
    ∙ intersection-within s.reported (intersection s.causes s.enabled) small_reported c.reported_is_pending in
    record {
      of_group = refl;
      by_words = λ k. record {
        group = s.group;
        causes = causes k;
        enabled = enabled k;
        auto_clear = clear k;
        auto_mask = mask k;
        reported = reported k;
      };
      auto_clear = c.auto_clear_exists;
      auto_mask = c.auto_mask_exists;
    }

-- A word that has only bits of the group is stored unchanged.
pub whole_word : (s : Interrupts) (g : Group) (word : ℕ) → s.group ≡ g → word < 2 ^ 32 → IsSubset word (group_bits g)
    → intersection word (group_bits s.group) ≡ word
whole_word s g word e small within =
    ap (λ h. intersection word (group_bits h)) e ∙ intersection-within word (group_bits g) small within
