-- Updating a group's interrupts in place has the same effect on the registers as the specified step.
use Rattle.std.proofs.Common.{◌≡◌, ℕ, ◌<◌, Bool, false, List, map, length, get_or, Option, Some, None, refl, ap, sym, ◌∙◌, subst, inl, inr, lit<}
use Rattle.std.specs.Prelude.{is_some, if◌then◌else◌}
use Rattle.std.proofs.lemmas.Bool.{cases_Bool, cond-true, cond-false}
use Rattle.std.proofs.lemmas.List.{get_or-map, set-get_or}
use Rattle.intr_unit.specs.BitSet.{bits_where}
use Rattle.intr_unit.specs.Interrupts.{Interrupts, reset_of, of_words, is_due, due_bits, next_bit, next_vector, after_message, after_message_of}
use Rattle.intr_unit.proofs.MessageLaws.{messages_tell}
use Rattle.intr_unit.proofs.SetLaws.{same_bits, bits_where-lt, contains-bits_where, contains-no_bits}
use Rattle.intr_unit.proofs.WordLaws.{no-lowest}
use Rattle.intr_unit.specs.declared.group.Group.{Group}
use Rattle.intr_unit.specs.declared.group.Group.TheVariants.{Pf, Vf}
use Rattle.register_file.specs.AllGroups.{AllGroups, at_group, with_group, IsOwn}
use Rattle.register_file.specs.Groups.{index_of, auto_clear_row, auto_mask_row, interrupts_of, with_interrupts}
use Rattle.register_file.specs.Layout.{registers_of}
use Rattle.register_file.specs.Registers.{Registers, with_word}
use Rattle.register_file.specs.declared.register_file.RegisterFile.TheInside.{Inside}
use Rattle.register_file.proofs.Columns.{group_columns}

-- Replacing a group's interrupts, with the same auto-clear and auto-mask, replaces its words in the registers.
pub changed : (a : Inside) (g : Group) (s : Interrupts) → s.group ≡ g
    → s.auto_clear ≡ (at_group a.groups g).auto_clear → s.auto_mask ≡ (at_group a.groups g).auto_mask
    → registers_of (record a { groups = with_group a.groups g s }) ≡ with_interrupts (registers_of a) s
changed a Pf s e clear mask = rw (e, clear, mask) refl
changed a (Vf v) s e clear mask = rw e (simp (clear, mask, group_columns))

-- Replacing a group's auto-clear or auto-mask replaces only that word in the registers.
pub auto_clear_changed : (a : Inside) (g : Group) (word : ℕ)
    → registers_of (record a { groups = with_group a.groups g (record (at_group a.groups g) { auto_clear = word }) })
    ≡ with_word (registers_of a) (auto_clear_row g) (index_of g) word
auto_clear_changed a Pf word = refl
auto_clear_changed a (Vf v) word = simp group_columns

pub auto_mask_changed : (a : Inside) (g : Group) (word : ℕ)
    → registers_of (record a { groups = with_group a.groups g (record (at_group a.groups g) { auto_mask = word }) })
    ≡ with_word (registers_of a) (auto_mask_row g) (index_of g) word
auto_mask_changed a Pf word = refl
auto_mask_changed a (Vf v) word = simp group_columns

at_words : (xs : List Interrupts) (v : ℕ) (d : Interrupts) → v < length xs → (g : Group)
    → of_words g (get_or (map (λ q. q.causes) xs) v 0) (get_or (map (λ q. q.enabled) xs) v 0)
    (get_or (map (λ q. q.auto_clear) xs) v 0) (get_or (map (λ q. q.auto_mask) xs) v 0)
    (get_or (map (λ q. q.reported) xs) v 0)
    ≡ (let q = get_or xs v d in of_words g q.causes q.enabled q.auto_clear q.auto_mask q.reported)
at_words xs v d b g =
    rw (
      get_or-map (λ q. q.causes) xs v d 0 b,
      get_or-map (λ q. q.enabled) xs v d 0 b,
      get_or-map (λ q. q.auto_clear) xs v d 0 b,
      get_or-map (λ q. q.auto_mask) xs v d 0 b,
      get_or-map (λ q. q.reported) xs v d 0 b,
    ) refl

-- The interrupts that the registers show for a group are the group's own.
pub shown : (a : Inside) (g : Group) → index_of g < 64 → length a.groups.vf ≡ 64 → IsOwn g (at_group a.groups g)
    → interrupts_of (registers_of a) g ≡ at_group a.groups g
shown a Pf b all own = own.by_words
shown a (Vf v) b all own =
    at_words a.groups.vf v (reset_of (Vf v)) (subst (λ n. v < n) (sym all) b) (Vf v) ∙ own.by_words

-- A step that changes interrupts but keeps their group, their auto-clear and their auto-mask.
pub record IsStep (step : Interrupts → Interrupts) : Type 0 where
  pub group : (s : Interrupts) → (step s).group ≡ s.group
  pub auto_clear : (s : Interrupts) → (step s).auto_clear ≡ s.auto_clear
  pub auto_mask : (s : Interrupts) → (step s).auto_mask ≡ s.auto_mask

-- Applying such a step in place changes the registers by the same step.
pub stepped : (a : Inside) (r : Registers) (g : Group) (step : Interrupts → Interrupts) (one : Interrupts)
    (new : AllGroups) → registers_of a ≡ r → index_of g < 64 → length a.groups.vf ≡ 64 → one ≡ at_group a.groups g
    → IsOwn g one → new ≡ with_group a.groups g (step (at_group a.groups g)) → IsStep step
    → registers_of (record a { groups = new }) ≡ with_interrupts r (step (interrupts_of r g))
stepped a r g step one new is b all there owned steps keeps =
    let s = at_group a.groups g in
    let own = subst (λ i. IsOwn g i) there owned in
    ap (λ gs. registers_of (record a { groups = gs })) steps
    ∙ changed a g (step s) (keeps.group s ∙ own.of_group) (keeps.auto_clear s) (keeps.auto_mask s)
    ∙ ap (λ i. with_interrupts (registers_of a) (step i)) (sym (shown a g b all own))
    ∙ ap (λ q. with_interrupts q (step (interrupts_of q g))) is

-- Replacing a group's interrupts with themselves changes nothing.
put_back : (s : AllGroups) (g : Group) → with_group s g (at_group s g) ≡ s
put_back s Pf = refl
put_back s (Vf v) = ap (λ xs. record s { vf = xs }) (set-get_or s.vf v (reset_of (Vf v)))

-- ---- messages

step_after : (s : Interrupts) (eiame : Bool) (next : Option ℕ) → let t = after_message_of s eiame next in
    (t.group ≡ s.group) × (t.auto_clear ≡ s.auto_clear) × (t.auto_mask ≡ s.auto_mask)
step_after s eiame None = assumption
step_after s eiame (Some bit) = assumption

message_step : (eiame : Bool) (misc : ℕ) → IsStep (λ s. after_message s eiame misc)
message_step eiame misc = record {
  group = λ s. (step_after s eiame (next_bit s misc)).0;
  auto_clear = λ s. (step_after s eiame (next_bit s misc)).1;
  auto_mask = λ s. (step_after s eiame (next_bit s misc)).2;
}

-- If there is no next message, there is no next bit.
no_next : (s : Interrupts) (misc : ℕ) → next_vector s misc ≡ None → next_bit s misc ≡ None
unfolding next_bit due_bits
no_next s misc none =
    let empty : bits_where (is_due s misc) ≡ 0 = same_bits (bits_where (is_due s misc)) 0 (bits_where-lt _) (lit< tt)
    (λ k b. contains-bits_where (is_due s misc) k b ∙ messages_tell.idle s misc k none b ∙ sym (contains-no_bits k)) in
    sym (no-lowest (bits_where (is_due s misc)) empty)

none_of : (o : Option ℕ) → is_some o ≡ false → o ≡ None
none_of None e = refl
none_of (Some x) e = cc

-- Sending a message in place changes the registers as the specified message does.
pub messaged : (a : Inside) (r : Registers) (g : Group) (eiame : Bool) (misc : ℕ) (one : Interrupts) (new : AllGroups)
    → registers_of a ≡ r → index_of g < 64 → length a.groups.vf ≡ 64 → one ≡ at_group a.groups g → IsOwn g one
    → new ≡ with_group a.groups g (after_message (at_group a.groups g) eiame misc)
    → registers_of (record a { groups = new })
    ≡ (if is_some (next_vector (interrupts_of r g) misc)
    then with_interrupts r (after_message (interrupts_of r g) eiame misc) else r)
messaged a r g eiame misc one new is b all there owned steps =
    let s = at_group a.groups g in
    let own = subst (λ i. IsOwn g i) there owned in
    let seen : interrupts_of r g ≡ s = ap (λ q. interrupts_of q g) (sym is) ∙ shown a g b all own in
    let test = is_some (next_vector (interrupts_of r g) misc) in
    let reported = with_interrupts r (after_message (interrupts_of r g) eiame misc) in
    elim (cases_Bool test) as (λ _. registers_of (record a { groups = new }) ≡ (if test then reported else r)) [
      | inl t ↦ stepped a r g (λ i. after_message i eiame misc) one new is b all there owned steps
          (message_step eiame misc) ∙ sym (cond-true test reported r t)
      | inr f ↦
          let none = ap (λ i. next_bit i misc) (sym seen) ∙ no_next (interrupts_of r g) misc
          (none_of (next_vector (interrupts_of r g) misc) f) in
          let same : new ≡ a.groups = steps ∙ ap (λ n. with_group a.groups g (after_message_of s eiame n)) none
          ∙ put_back a.groups g in
          ap (λ gs. registers_of (record a { groups = gs })) same ∙ is ∙ sym (cond-false test reported r f)
    ]

-- A message sent in place has the vector that the registers determine.
pub vector_shown : (a : Inside) (r : Registers) (g : Group) (misc : ℕ) (one : Interrupts) → registers_of a ≡ r
    → index_of g < 64 → length a.groups.vf ≡ 64 → one ≡ at_group a.groups g → IsOwn g one
    → next_vector (at_group a.groups g) misc ≡ next_vector (interrupts_of r g) misc
vector_shown a r g misc one is b all there owned =
    let own = subst (λ i. IsOwn g i) there owned in
    ap (λ i. next_vector i misc) (sym (shown a g b all own)) ∙ ap (λ q. next_vector (interrupts_of q g) misc) is
