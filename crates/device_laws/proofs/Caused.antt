-- How raised causes change the interrupt state of groups.
use Rattle.std.proofs.Common.{cond, ◌≡◌, ◌<◌, ◌≤◌, ◌/◌, ℕ, true, false, refl, ap, sym, ◌∙◌, subst, inl, inr, arith, nat_lt, Option, Some, None}
use Rattle.nic_device.specs.IntrUnit.Group.{queue_causes}
use Rattle.nic_device.specs.IntrUnit.Interrupts.{raised}
use Rattle.nic_device.specs.IntrUnit.declared.group.Group.TheVariants as group
use Rattle.nic_device.specs.RegisterFile.Groups.{index_of, interrupts_of, causes_raised, vector_row, vector_entry}
use Rattle.nic_device.proofs.RegisterLaws.Settled.{settled-raised}
use Rattle.nic_device.proofs.RegisterLaws.Owners.{is_group-same, is_group-itself}
use Rattle.nic_device.proofs.RegisterLaws.ReadBack.{settings_stand}
use Rattle.nic_device.specs.Interrupt.{group_of_queue, group_of, function_in, function_of_queue, mode_in, raised_by}
use Rattle.device_laws.specs.Prelude.{ChangesWithin, Dir, GcrExt, Group, HasShape, LacksWord, Mode, Registers, State}
use Rattle.device_laws.specs.Prelude.{is_group, mode_of, pending, place, pool_of}
use Rattle.device_laws.proofs.Prelude.{cases_Bool, cond_both, group_stands, interrupts_of-with_interrupts}
use Rattle.device_laws.proofs.Prelude.{intersection-lt, ltb-true, settled, within-causes_raised, word_stands}
use Rattle.device_laws.specs.Raising.{Causes, after_causes, queue_cause}
use Rattle.device_laws.proofs.Missed.{misses-other_group}
use Rattle.nic_device.proofs.Raising.{of_step}

-- Raised causes appear in their group, and every other group is unchanged.

own_raised : (r : Registers) (g : Group) (bits : ℕ) → HasShape r → index_of g < 64
    → interrupts_of (causes_raised r g bits) g ≡ raised (interrupts_of r g) bits false
own_raised r g bits h small =
    let old = interrupts_of r g in
    let is = settled-raised old (settled r g) bits false in
    interrupts_of-with_interrupts r h (raised old bits false) small is.consistent is.causes is.enabled
    (intersection-lt _ _)

pub group_raised : (r : Registers) (c : Causes) → HasShape r → index_of c.group < 64 → (g : Group)
    → interrupts_of (causes_raised r c.group c.bits) g ≡ after_causes (Some c) g (interrupts_of r g)
group_raised r c h small g =
    elim (cases_Bool (is_group c.group g)) as (λ _. interrupts_of (causes_raised r c.group c.bits) g
    ≡ after_causes (Some c) g (interrupts_of r g)) [
      | inl same ↦
          ap (λ o. interrupts_of (causes_raised r c.group c.bits) o) (sym (is_group-same c.group g same))
          ∙ own_raised r c.group c.bits h small
          ∙ ap (λ o. raised (interrupts_of r o) c.bits false) (is_group-same c.group g same)
          ∙ sym (ap (λ b. cond b (raised (interrupts_of r g) c.bits false) (interrupts_of r g)) same)
      | inr other ↦
          group_stands (pending c.group) r (causes_raised r c.group c.bits) g
          (misses-other_group c.group g (λ e. let itself = is_group-itself g in
          let same : is_group c.group g ≡ true = subst (λ o. is_group o g ≡ true) e itself in cc))
          (within-causes_raised r c.group c.bits)
          ∙ sym (ap (λ b. cond b (raised (interrupts_of r g) c.bits false) (interrupts_of r g)) other)
    ]

-- The registers have the group of a queue.

group_small : (vfs : ℕ) (o : Option ℕ) → vfs ≤ 63 → index_of (group_of (function_in vfs o)) < 64
group_small vfs None few = omega arith
group_small vfs (Some pool) few =
    cond_both (nat_lt pool vfs) (Some pool) None (λ v. index_of (group_of v) < 64)
    (λ both. let below = ltb-true pool vfs both in omega arith) (λ none. omega arith)

pub queue_group_small : (r : Registers) (vfs queue : ℕ) → vfs ≤ 63 → index_of (group_of_queue r vfs queue) < 64
unfolding function_of_queue
queue_group_small r vfs queue few = group_small vfs (pool_of (mode_in r) queue) few

-- The changes that a step performs before it raises a cause don't affect which cause its queue raises.
vector_kept : (g : Group) (dir : Dir) (queue at : ℕ) → LacksWord (of_step dir queue) (place (vector_row g) at)
vector_kept group.Pf dir queue at bit = refl
vector_kept (group.Vf v) dir queue at bit = refl

pub same_cause : (s : State) (t : Registers) (dir : Dir) (queue : ℕ) → ChangesWithin (of_step dir queue) s.registers t
    → queue_cause (record s { registers = t }) dir queue ≡ queue_cause s dir queue
unfolding function_of_queue
same_cause s t dir queue within =
    let mode : mode_in t ≡ mode_in s.registers =
    (λ k. mode_in_word (word_stands within (place GcrExt 0) (λ bit. refl) k)) in
    let g = group_of_queue s.registers s.vfs queue in
    let same : group_of_queue t s.vfs queue ≡ g =
    ap (λ m. group_of (function_in s.vfs (pool_of m queue))) mode in
    let entry = (settings_stand (of_step dir queue) s.registers t within).vector g dir queue
    (vector_kept g dir queue (queue / 2)) in
    ap (λ o. causes_by o (vector_entry t o dir queue)) same ∙ ap (causes_by g) entry
  where
    mode_in_word : ℕ → Mode
    mode_in_word word = mode_of word

    causes_by : Group → ℕ → Causes
    causes_by o entry = record { group = o; bits = queue_causes o entry }

-- A queue raises its cause after a step has performed some of its permitted changes.
pub queue_raises : (s : State) (t : Registers) (dir : Dir) (queue : ℕ) → HasShape t → s.vfs ≤ 63
    → ChangesWithin (of_step dir queue) s.registers t → (g : Group)
    → interrupts_of t g ≡ interrupts_of s.registers g
    → interrupts_of (raised_by t s.vfs dir queue) g
    ≡ after_causes (Some (queue_cause s dir queue)) g (interrupts_of s.registers g)
unfolding raised_by
queue_raises s t dir queue h few within g same =
    group_raised t (queue_cause (record s { registers = t }) dir queue) h (queue_group_small t s.vfs queue few) g
    ∙ (λ k. after_causes (Some (same_cause s t dir queue within k)) g (same k))
