-- Why a receive step gets its reply.
use Rattle.std.proofs.Common.{◌≡◌, ◌≢◌, ◌⊎◌, ◌&&◌, ◌==◌, false, cond, List, [], ◌∷◌, Ok, Err, inl, inr, refl, ap, ◌∙◌}
use Rattle.std.specs.Prelude.{Result}
use Rattle.std.proofs.lemmas.Bool.{cond-true, cond-false, cond_both, both_ways, and_parts, and_cases, and_from, and_left, and_right, eqb-true, eqb-false, eq-eqb, ne_eqb}
use Rattle.nic_device.specs.RegisterLaws.Sides.{ReceiveQueue, receive_queue_of}
use Rattle.nic_device.specs.Receive.{received, first_received, without_slot, slot_filled, slot_done, is_empty, slotless_counted}
use Rattle.datasheet_laws.specs.FramePrelude.{Ctrl, Dropped, Filled, Idle, Memory, NoSlot, Outcome, QueueOff, RingFault}
use Rattle.datasheet_laws.specs.FramePrelude.{Rxdctl}
use Rattle.datasheet_laws.specs.FramePrelude.{Srrctl, State, Waiting, Why, drops, gives, is_stopped, step_of, word_of}
use Rattle.datasheet_laws.specs.Bits.{bit}
use Rattle.datasheet_laws.specs.Receiving.{IsNext, IsMet, HasNoSlot, ReceivesNothing, WaitsOn, IsReceivedSo, IsLostFor}
use Rattle.datasheet_laws.specs.Receiving.{ReceivedForAReason, EachReasonIsMet}
use Rattle.datasheet_laws.proofs.FrameBits.{has-one, has-zero, one-has, zero-has}
use Rattle.datasheet_laws.proofs.Slots.{receive-slotless, receive-empty}

module _ (s : State) where
  abbrev So : Outcome → Type 0
  So o = IsReceivedSo s o.reply

  module _ (w : Waiting) (others : List Waiting) where
    abbrev side : ReceiveQueue
    side = receive_queue_of s.registers w.queue

    abbrev turned_away : Outcome
    turned_away = gives (Dropped QueueOff) (record s { waiting = others })

    abbrev dropped : Outcome
    dropped =
        gives (Dropped NoSlot) (record s { registers = slotless_counted s.registers w.queue; waiting = others })

    abbrev looked_at : Outcome
    looked_at = cond (is_empty side.ring) (without_slot s w others) (slot_filled s w others side)

    -- A reply has its reason.

    kept : (drops s.registers w.queue ≡ false) ⊎ ((w.offset == 0) ≡ false)
        → (bit 28 (word_of s.registers Srrctl w.queue) ≡ 0) ⊎ (w.offset ≢ 0)
    kept (inl off) = inl (zero-has 28 (word_of s.registers Srrctl w.queue) off)
    kept (inr begun) = inr (eqb-false w.offset 0 begun)

    slotless_so : IsMet s w others → HasNoSlot s.registers w.queue → So (without_slot s w others)
    slotless_so met none =
        cond_both (drops s.registers w.queue && w.offset == 0) dropped (gives Idle s) So
        (λ b.
        let parts = and_parts (drops s.registers w.queue) (w.offset == 0) b in
        record {
          w = w;
          others = others;
          met = met;
          slotless = none;
          drops = one-has 28 (word_of s.registers Srrctl w.queue) parts.0;
          unbegun = eqb-true w.offset 0 parts.1;
        })
        (λ b. inr (inr (record {
          w = w;
          others = others;
          met = met;
          slotless = none;
          keeps = kept (and_cases (drops s.registers w.queue) (w.offset == 0) b);
        })))

    done_so : IsMet s w others → (HasNoSlot s.registers w.queue → ⊥) → (answer : Result Filled RingFault)
        → (memory : Memory) → So (slot_done s w others answer memory)
    done_so met slot (Ok f) memory = record { w = w; others = others; met = met; slot = slot; own = refl }
    done_so met slot (Err fault) memory = record { w = w; others = others; met = met; slot = slot; own = refl }

    met_so : IsMet s w others → So looked_at
    met_so met =
        cond_both (is_empty side.ring) (without_slot s w others) (slot_filled s w others side) So
        (λ empty. slotless_so met (receive-slotless s.registers w.queue empty))
        (λ some. done_so met (λ none. both_ways (is_empty side.ring) some (receive-empty s.registers w.queue none)) _ _)

    next_so : IsNext s w others → So (first_received s (w ∷ others))
    next_so next =
        cond_both side.on looked_at turned_away So
        (λ on. met_so (record { next = next; on = one-has 25 (word_of s.registers Rxdctl w.queue) on }))
        (λ off. record {
          w = w;
          others = others;
          next = next;
          off = zero-has 25 (word_of s.registers Rxdctl w.queue) off;
        })

    -- A reason has its reply.

    next-comes : IsNext s w others → received s ≡ first_received s (w ∷ others)
    next-comes next =
        cond-false (is_stopped s.registers) (gives Idle s) (first_received s s.waiting)
        (has-zero 2 (word_of s.registers Ctrl 0) next.runs)
        ∙ ap (first_received s) next.first

    off-comes : IsNext s w others → bit 25 (word_of s.registers Rxdctl w.queue) ≡ 0 → received s ≡ turned_away
    off-comes next off =
        next-comes next
        ∙ cond-false side.on looked_at turned_away (has-zero 25 (word_of s.registers Rxdctl w.queue) off)

    slotless-comes : IsMet s w others → HasNoSlot s.registers w.queue → received s ≡ without_slot s w others
    slotless-comes met none =
        next-comes met.next
        ∙ cond-true side.on looked_at turned_away (has-one 25 (word_of s.registers Rxdctl w.queue) met.on)
        ∙ cond-true (is_empty side.ring) (without_slot s w others) (slot_filled s w others side)
        (receive-empty s.registers w.queue none)

    drops-comes : bit 28 (word_of s.registers Srrctl w.queue) ≡ 1 → w.offset ≡ 0 → without_slot s w others ≡ dropped
    drops-comes set unbegun =
        cond-true (drops s.registers w.queue && w.offset == 0) dropped (gives Idle s)
        (and_from (drops s.registers w.queue) (w.offset == 0) (has-one 28 (word_of s.registers Srrctl w.queue) set)
        (eq-eqb w.offset 0 unbegun))

    keeps-test : (bit 28 (word_of s.registers Srrctl w.queue) ≡ 0) ⊎ (w.offset ≢ 0)
        → (drops s.registers w.queue && w.offset == 0) ≡ false
    keeps-test (inl off) =
        and_left (drops s.registers w.queue) (w.offset == 0) (has-zero 28 (word_of s.registers Srrctl w.queue) off)
    keeps-test (inr begun) = and_right (drops s.registers w.queue) (w.offset == 0) (ne_eqb w.offset 0 begun)

    keeps-comes : (bit 28 (word_of s.registers Srrctl w.queue) ≡ 0) ⊎ (w.offset ≢ 0)
        → without_slot s w others ≡ gives Idle s
    keeps-comes keeps =
        cond-false (drops s.registers w.queue && w.offset == 0) dropped (gives Idle s) (keeps-test keeps)

  first_so : bit 2 (word_of s.registers Ctrl 0) ≡ 0 → (ws : List Waiting) → s.waiting ≡ ws → So (first_received s ws)
  first_so runs [] e = inr (inl e)
  first_so runs (w ∷ others) e = next_so w others (record { runs = runs; first = e })

  waits-comes : (k : WaitsOn s) → received s ≡ gives Idle s
  waits-comes k = slotless-comes k.w k.others k.met k.slotless ∙ keeps-comes k.w k.others k.keeps

  idle-comes : ReceivesNothing s → received s ≡ gives Idle s
  idle-comes (inl stopped) =
      cond-true (is_stopped s.registers) (gives Idle s) (first_received s s.waiting)
      (has-one 2 (word_of s.registers Ctrl 0) stopped)
  idle-comes (inr (inl none)) =
      cond_both (is_stopped s.registers) (gives Idle s) (first_received s s.waiting) (λ o. o ≡ gives Idle s)
      (λ stopped. refl) (λ runs. ap (first_received s) none)
  idle-comes (inr (inr k)) = waits-comes k

  lost-comes : (why : Why) → IsLostFor s why → (received s).reply ≡ Dropped why
  lost-comes QueueOff k = ap (λ (o : Outcome). o.reply) (off-comes k.w k.others k.next k.off)
  lost-comes NoSlot k =
      ap (λ (o : Outcome). o.reply)
      (slotless-comes k.w k.others k.met k.slotless ∙ drops-comes k.w k.others k.drops k.unbegun)
  lost-comes other k = absurd k

pub received_so : ReceivedForAReason
unfolding step_of
received_so s =
    cond_both (is_stopped s.registers) (gives Idle s) (first_received s s.waiting) (So s)
    (λ stopped. inl (one-has 2 (word_of s.registers Ctrl 0) stopped))
    (λ runs. first_so s (zero-has 2 (word_of s.registers Ctrl 0) runs) s.waiting refl)

pub reasons_met : EachReasonIsMet
unfolding step_of
reasons_met s = record { idle = idle-comes s; dropped = lost-comes s }
