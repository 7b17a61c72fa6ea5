-- A message marks the bit that it reports.
use Rattle.std.proofs.Common.{◌≡◌, ℕ, ◌==◌, ◌||◌, Some, refl, ap, sym, ◌∙◌, arith}
use Rattle.std.specs.Prelude.{is_some}
use Rattle.std.specs.Option.{option_and_then}
use Rattle.nic_device.specs.IntrUnit.BitSet.{union, only}
use Rattle.nic_device.specs.IntrUnit.Interrupts.{next_bit, after_telling, after_message_of}
use Rattle.nic_device.specs.IntrUnit.Laws.{IsMessageOf}
use Rattle.nic_device.proofs.IntrUnit.Due.{next_bit-of}
use Rattle.nic_device.proofs.IntrUnit.SetLaws.{contains-union, contains-only}
use Rattle.nic_device.specs.RegisterFile.Groups.{interrupts_of, with_interrupts, message_of, message_made, masks_by_message}
use Rattle.nic_device.proofs.RegisterLaws.Settled.{settled-after_message_of}
use Rattle.nic_device.specs.declared.event.Event.TheVariants as event
use Rattle.datasheet_laws.specs.Prelude.{Group, Idle, IvarMisc, Outcome, State, after, gives, is_stopped, message_reply}
use Rattle.datasheet_laws.specs.Prelude.{vector_of, word_of}
use Rattle.datasheet_laws.proofs.Prelude.{cond-false, cond-true, intersection-lt, keeps_sound, settled}
use Rattle.datasheet_laws.specs.Marks.{is_reported, MessagesMark}
use Rattle.datasheet_laws.proofs.Groups.{index_small}
use Rattle.datasheet_laws.proofs.Marks.{own_mark, put_with}
use Rattle.datasheet_laws.proofs.SettingsShown.{stops}
use Rattle.datasheet_laws.proofs.Steps.{has_from, small_group}
use Rattle.datasheet_laws.proofs.Telling.{there, message_is}
use Rattle.datasheet_laws.proofs.Words.{small}

-- The registers after a message of a bit.
registers_made : (s : State) (g : Group) (bit vector : ℕ)
    → IsMessageOf (interrupts_of s.registers g) (word_of s.registers IvarMisc 0) vector bit
    → message_made s.registers g
    ≡ with_interrupts s.registers
    (after_telling (interrupts_of s.registers g) (masks_by_message s.registers) bit)
registers_made s g bit vector m =
    let r = s.registers in
    let i = interrupts_of r g in
    let w = word_of r IvarMisc 0 in
    let next = next_bit-of i w vector bit m in
    let some = ap is_some (ap (option_and_then (vector_of g w)) next ∙ m.due.routed) in
    cond-true (is_some (message_of r g))
    (with_interrupts r (after_message_of i (masks_by_message r) (next_bit i w))) r some
    ∙ ap (λ o. with_interrupts r (after_message_of i (masks_by_message r) o)) next

pub messages_mark : MessagesMark
messages_mark s h g is runs bit vector due none other b =
    let r = s.registers in
    let i = interrupts_of r g in
    let small_g = small_group s g h is in
    let few = index_small g small_g in
    let then = keeps_sound s h (event.IntStep g) (omega (arith, few)) in
    let made = message_is s g h small_g bit vector due none in
    let high = small g other b in
    put_with s (after s (event.IntStep g)) h then g small_g other b (union i.reported (only bit))
    (is_reported s g other || other == bit)
    (contains-union i.reported (only bit) other high
    ∙ (λ k. own_mark s s h h g small_g other b s h k || contains-only bit other high k))
    (after_telling i (masks_by_message r) bit) refl
    (settled-after_message_of i (settled r g) (masks_by_message r) (Some bit)) (intersection-lt _ _)
    (ap (λ (o : Outcome). o.state.registers) (there s g (has_from s g h is)
    ∙ cond-false (is_stopped r) (gives Idle s)
    (gives (message_reply g (message_of r g)) (record s { registers = message_made r g })) (sym (stops s) ∙ runs))
    ∙ registers_made s g bit vector made)
    refl
