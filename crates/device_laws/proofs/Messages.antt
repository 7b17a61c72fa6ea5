-- An interrupt step reports a due bit.
use Rattle.std.proofs.Common.{◌≡◌, ℕ, ◌<◌, Bool, true, false, cond, subst, Option, Some, None, refl, ap, sym, ◌∙◌, arith}
use Rattle.std.specs.Prelude.{is_some, nat_lt}
use Rattle.nic_device.specs.IntrUnit.Interrupts.{after_message, after_message_of, next_bit}
use Rattle.nic_device.specs.IntrUnit.Laws.{Leaves, reported_bits}
use Rattle.nic_device.specs.IntrUnit.declared.group.Group.TheVariants.{Pf, Vf}
use Rattle.nic_device.proofs.IntrUnit.MessageLaws.{messages_tell, messages_change}
use Rattle.nic_device.specs.RegisterFile.Groups.{index_of, interrupts_of, with_interrupts, message_of, message_made, masks_by_message}
use Rattle.nic_device.proofs.RegisterLaws.Settled.{settled-after_message_of}
use Rattle.nic_device.specs.Interrupt.{has_group, message_reply, messaged}
use Rattle.nic_device.specs.declared.event.Event.TheVariants as event
use Rattle.nic_device.specs.declared.event.Reply.TheVariants.{Idle, NoGroup}
use Rattle.device_laws.specs.Prelude.{Group, HasShape, IsSound, IvarMisc, Outcome, Registers, State, gives, is_stopped}
use Rattle.device_laws.specs.Prelude.{mode_in, queues_of, step_of, word_of}
use Rattle.device_laws.proofs.Prelude.{and_parts, interrupts_of-with_interrupts, intersection-lt, ltb-true, settled}
use Rattle.device_laws.specs.Messages.{IsDueIn, SendsLowest, DueBitIsReported}

-- The registers show a group's interrupts after a message.

shown : (r : Registers) (g : Group) (eiame : Bool) (next : Option ℕ) → HasShape r → index_of g < 64
    → interrupts_of (with_interrupts r (after_message_of (interrupts_of r g) eiame next)) g
    ≡ after_message_of (interrupts_of r g) eiame next
shown r g eiame None h small =
    let is = settled r g in
    interrupts_of-with_interrupts r h (interrupts_of r g) small is.consistent is.causes is.enabled (intersection-lt _ _)
shown r g eiame (Some bit) h small =
    let is = settled-after_message_of (interrupts_of r g) (settled r g) eiame (Some bit) in
    interrupts_of-with_interrupts r h (after_message_of (interrupts_of r g) eiame (Some bit)) small is.consistent
    is.causes is.enabled (intersection-lt _ _)

-- The registers contain every existing group.
group_small : (s : State) (g : Group) → IsSound s → has_group s g ≡ true → index_of g < 64
group_small s Pf h there = omega arith
group_small s (Vf v) h there =
    let parts = and_parts (nat_lt v s.vfs) (is_some (queues_of (mode_in s.registers) v)) there in
    let below = ltb-true v s.vfs parts.0 in
    let few = h.vfs in
    omega arith

made : (r : Registers) (g : Group) (vector : ℕ) → message_of r g ≡ Some vector
    → message_made r g
    ≡ with_interrupts r (after_message (interrupts_of r g) (masks_by_message r) (word_of r IvarMisc 0))
made r g vector e =
    ap (λ o. cond (is_some o)
    (with_interrupts r (after_message (interrupts_of r g) (masks_by_message r) (word_of r IvarMisc 0))) r) e

stepped : (s : State) (g : Group) → is_stopped s.registers ≡ false → has_group s g ≡ true
    → cond (has_group s g) (messaged s g) (gives NoGroup s)
    ≡ gives (message_reply g (message_of s.registers g)) (record s { registers = message_made s.registers g })
stepped s g runs there =
    ap (λ b. cond b (messaged s g) (gives NoGroup s)) there
    ∙ ap (λ b. cond b (gives Idle s)
    (gives (message_reply g (message_of s.registers g)) (record s { registers = message_made s.registers g }))) runs

sends : (s : State) (g : Group) → IsSound s → is_stopped s.registers ≡ false → has_group s g ≡ true → (bit : ℕ)
    → bit < 32 → IsDueIn s.registers g bit → (o : Option ℕ) → message_of s.registers g ≡ o → SendsLowest s g
unfolding step_of
sends s g h runs there bit small due None none =
    let idle = messages_tell.idle (interrupts_of s.registers g) (word_of s.registers IvarMisc 0) bit none small in
    let differ : true ≡ false = sym due ∙ idle in
    absurd (cc)
sends s g h runs there bit small due (Some vector) is =
    let r = s.registers in
    let i = interrupts_of r g in
    let misc = word_of r IvarMisc 0 in
    let eiame = masks_by_message r in
    let reported = messages_tell.reported i misc vector is in
    let step = stepped s g runs there in
    let left : interrupts_of (step_of s (event.IntStep g)).state.registers g ≡ after_message i eiame misc =
    ap (λ (o : Outcome). interrupts_of o.state.registers g) step
    ∙ ap (λ t. interrupts_of t g) (made r g vector is)
    ∙ shown r g eiame (next_bit i misc) h.registers.shape (group_small s g h there) in
    record {
      vector = vector;
      bit = reported.0;
      reply = ap (λ (o : Outcome). o.reply) step ∙ ap (message_reply g) is;
      lowest = reported.1;
      leaves = subst (λ n. Leaves i n (reported_bits i eiame reported.0)) (sym left)
          (messages_change.reported i eiame misc vector reported.0 reported.1);
    }

pub due_reported : DueBitIsReported
due_reported s h runs g there bit small due = sends s g h runs there bit small due (message_of s.registers g) refl
