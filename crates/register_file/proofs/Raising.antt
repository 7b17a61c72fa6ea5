-- Raising causes changes nothing else in a group's interrupts.
use Rattle.std.proofs.Common.{◌≡◌, ℕ, ◌^◌, ◌<◌, ◌≤◌, Bool, true, false, ◌==◌, ◌&&◌, ◌||◌, List, map, length, get_or, refl, ap, sym, ◌∙◌, subst, inl, inr, arith}
use Rattle.std.specs.Prelude.{bit_or, nat_le}
use Rattle.std.proofs.Math.Bool.{or-false}
use Rattle.std.proofs.lemmas.Bool.{cases_Bool, cond-true, cond-false, and_parts, and_from, eqb-true, leb-true, le-leb}
use Rattle.std.proofs.lemmas.List.{get_or-map}
use Rattle.intr_unit.specs.BitSet.{BitSet, no_bits, contains, union, intersection, when, bits_below, bits_where, bits_from_to, only, IsSubset}
use Rattle.intr_unit.specs.Group.{group_bits, queue_causes, field}
use Rattle.intr_unit.specs.Interrupts.{Interrupts, reset_of, raised, auto_masked}
use Rattle.intr_unit.specs.declared.group.Group.{Group}
use Rattle.intr_unit.specs.declared.group.Group.TheVariants.{Pf, Vf}
use Rattle.intr_unit.proofs.SetLaws.{same_bits, bits_where-lt, passes, contains-union, contains-intersection, contains-no_bits, contains-bits_from_to}
use Rattle.intr_unit.proofs.Subsets.{IsSubset-no_bits, IsSubset-itself, IsSubset-intersection_right}
use Rattle.intr_unit.proofs.WordLaws.{bit_or-is}
use Rattle.register_file.specs.AllGroups.{IsOwn, at_group, with_group}
use Rattle.register_file.specs.Groups.{cause_row, index_of}
use Rattle.register_file.specs.Layout.{registers_of}
use Rattle.register_file.specs.Mailbox.{cause_set}
use Rattle.register_file.specs.Registers.{word_of, with_word}
use Rattle.register_file.specs.declared.register_file.RegisterFile.TheInside.{Inside}
use Rattle.register_file.proofs.Columns.{group_columns}
use Rattle.register_file.proofs.Own.{intersection-lt, whole_word}

union-lt : (a b : BitSet) → union a b < 2 ^ 32
unfolding union
union-lt a b = bits_where-lt _

with_none : (a : BitSet) → a < 2 ^ 32 → union a no_bits ≡ a
with_none a small =
    same_bits (union a no_bits) a (union-lt a no_bits) small
    (λ k b. contains-union a no_bits k b ∙ ap (λ x. contains a k || x) (contains-no_bits k) ∙ or-false (contains a k))

no_mask : (s : Interrupts) (bits : BitSet) → auto_masked s bits false ≡ no_bits
unfolding when
no_mask s bits = refl

-- A reported bit keeps its cause and mask if causes are only added.
still_reported : (reported cause mask more : Bool) → (reported && (cause && mask)) ≡ reported
    → (reported && ((cause || more) && mask)) ≡ reported
still_reported false cause mask more e = refl
still_reported true true mask more e = e
still_reported true false mask more e = cc

reported_stands : (reported causes masks more : BitSet) → reported < 2 ^ 32
    → intersection reported (intersection causes masks) ≡ reported
    → intersection reported (intersection (union causes more) masks) ≡ reported
reported_stands reported causes masks more small is =
    let parts = λ (k : ℕ) (b : k < 32) (all : BitSet). contains-intersection reported (intersection all masks) k b
    ∙ ap (λ x. contains reported k && x) (contains-intersection all masks k b) in
    same_bits (intersection reported (intersection (union causes more) masks)) reported (intersection-lt _ _) small
    (λ k b. parts k b (union causes more)
    ∙ ap (λ x. contains reported k && (x && contains masks k)) (contains-union causes more k b)
    ∙ still_reported (contains reported k) (contains causes k) (contains masks k) (contains more k)
    (sym (parts k b causes) ∙ ap (λ s. contains s k) is))

-- Without the auto-mask, raising changes only the causes.
pub cause_alone : (s : Interrupts) (g : Group) (bits : BitSet) → IsOwn g s → bits < 2 ^ 32
    → IsSubset bits (group_bits g) → raised s bits false ≡ record s { causes = bit_or s.causes bits }
cause_alone s g bits own small within =
    let causes_are : intersection s.causes (group_bits g) ≡ s.causes = ap (λ i. i.causes) own.by_words in
    let masks_are : intersection s.enabled (group_bits g) ≡ s.enabled = ap (λ i. i.enabled) own.by_words in
    let reported_is : intersection s.reported (intersection s.causes s.enabled) ≡ s.reported =
    (λ k. intersection s.reported (intersection (sym causes_are k) (sym masks_are k)))
    ∙ ap (λ i. i.reported) own.by_words in
    let small_causes : s.causes < 2 ^ 32 = subst (λ n. n < 2 ^ 32) causes_are (intersection-lt _ _) in
    let small_masks : s.enabled < 2 ^ 32 = subst (λ n. n < 2 ^ 32) masks_are (intersection-lt _ _) in
    let small_reported : s.reported < 2 ^ 32 = subst (λ n. n < 2 ^ 32) reported_is (intersection-lt _ _) in
    let more = intersection bits (group_bits s.group) in
    let whole : more ≡ bits = whole_word s g bits own.of_group small within in
    let joined : union s.causes more ≡ bit_or s.causes bits =
    ap (union s.causes) whole ∙ sym (bit_or-is s.causes bits small_causes small) in
    let masks : union s.enabled (auto_masked s bits false) ≡ s.enabled =
    ap (union s.enabled) (no_mask s bits) ∙ with_none s.enabled small_masks in
    let reported : intersection s.reported
    (intersection (union s.causes more) (union s.enabled (auto_masked s bits false)))
    ≡ s.reported =
    ap (λ m. intersection s.reported (intersection (union s.causes more) m)) masks
    ∙ reported_stands s.reported s.causes s.enabled more small_reported reported_is in
    λ k. record s { causes = joined k; enabled = masks k; reported = reported k }

at_causes : (xs : List Interrupts) (v : ℕ) (d : Interrupts) → v < length xs
    → get_or (map (λ q. q.causes) xs) v 0 ≡ (get_or xs v d).causes
at_causes xs v d b = get_or-map (λ q. q.causes) xs v d 0 b

-- Replacing a group's causes replaces only its cause word in the registers.
changed : (a : Inside) (g : Group) (word : ℕ)
    → registers_of (record a { groups = with_group a.groups g (record (at_group a.groups g) { causes = word }) })
    ≡ with_word (registers_of a) (cause_row g) (index_of g) word
changed a Pf word = refl
changed a (Vf v) word = simp group_columns

word_shown : (a : Inside) (g : Group) → index_of g < 64 → length a.groups.vf ≡ 64
    → word_of (registers_of a) (cause_row g) (index_of g) ≡ (at_group a.groups g).causes
word_shown a Pf b all = refl
word_shown a (Vf v) b all = at_causes a.groups.vf v (reset_of (Vf v)) (subst (λ n. v < n) (sym all) b)

pub cause_changed : (a : Inside) (g : Group) (bits : ℕ) → index_of g < 64 → length a.groups.vf ≡ 64
    → registers_of (record a {
      groups = with_group a.groups g
          (record (at_group a.groups g) { causes = bit_or (at_group a.groups g).causes bits });
    })
    ≡ cause_set (registers_of a) g bits
cause_changed a g bits b all =
    changed a g _
    ∙ ap (λ word. with_word (registers_of a) (cause_row g) (index_of g) (bit_or word bits)) (sym (word_shown a g b all))

-- The mailbox cause is a bit of the physical function's group.
mail_bits : intersection 0x80000 (group_bits Pf) ≡ 0x80000
unfolding intersection group_bits bits_from_to bits_where bits_below contains
mail_bits = refl

pub mail_cause : IsSubset 0x80000 (group_bits Pf)
mail_cause =
    subst (λ s. IsSubset s (group_bits Pf)) mail_bits
    (IsSubset-intersection_right 0x80000 (group_bits Pf) (group_bits Pf) (IsSubset-itself (group_bits Pf)))

one_within : (v n : ℕ) → n ≤ 2 → IsSubset (only n) (group_bits (Vf v))
unfolding only group_bits
one_within v n low = record {
  member = λ k h.
      let same : k ≡ n = eqb-true k n (passes (λ bit. bit == n) k h) in
      contains-bits_from_to 2 0 k (omega arith)
      ∙ and_from (nat_le 0 k) (nat_le k 2) (le-leb 0 k (omega arith)) (le-leb k 2 (omega arith));
}

pub queue_cause : (v entry : ℕ) → IsSubset (queue_causes (Vf v) entry) (group_bits (Vf v))
unfolding queue_causes
queue_cause v entry =
    let n = field entry 5 0 in
    let test = contains entry 7 && nat_le n 2 in
    elim (cases_Bool test) [
      | inl t ↦ subst (λ s. IsSubset s (group_bits (Vf v))) (sym (cond-true test (only n) no_bits t))
          (one_within v n (leb-true n 2 (and_parts (contains entry 7) (nat_le n 2) t).1))
      | inr f ↦ subst (λ s. IsSubset s (group_bits (Vf v))) (sym (cond-false test (only n) no_bits f))
          (IsSubset-no_bits (group_bits (Vf v)))
    ]
