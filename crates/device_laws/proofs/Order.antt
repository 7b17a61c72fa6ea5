-- The cases of a receive step.
use Rattle.std.proofs.Common.{cond, ◌≡◌, ◌≢◌, ◌⊎◌, Bool, true, false, List, ◌∷◌, refl, ap, sym, ◌∙◌, subst, Ok, Err, inl, inr}
use Rattle.std.specs.Prelude.{Result, ◌&&◌, ◌==◌, is_ok}
use Rattle.std.proofs.Math.Bool.{and-false}
use Rattle.std.proofs.lemmas.Bool.{cond_both, and_parts, and_cases, and_from, eq-eqb, ne_eqb, eqb-true, eqb-false}
use Rattle.device_laws.specs.Prelude.{Dropped, Filled, Idle, NoSlot, Outcome, QueueOff, RingFault, State, Waiting}
use Rattle.device_laws.specs.Prelude.{drops, gives, is_stopped, step_of}
use Rattle.device_laws.specs.Order.{side_for, filling, IsSlotless, HasSlot, CaseOf, ReceivingHasAnOrder, EachReplyInItsCase, NothingWaitsIsIdle}
use Rattle.nic_device.specs.Receive.{received, first_received, without_slot, slot_filled, slot_done, is_empty, slotless_counted}

running : (s : State) → is_stopped s.registers ≡ false → received s ≡ first_received s s.waiting
running s runs = ap (λ b. cond b (gives Idle s) (first_received s s.waiting)) runs

pub nothing_waits : NothingWaitsIsIdle
unfolding step_of
nothing_waits s runs e = running s runs ∙ ap (first_received s) e

module _ (s : State) (w : Waiting) (others : List Waiting) where
  abbrev dropped : Outcome
  dropped = gives (Dropped QueueOff) (record s { waiting = others })

  abbrev looked_at : Outcome
  looked_at =
      cond (is_empty (side_for s w).ring) (without_slot s w others) (slot_filled s w others (side_for s w))

module _ (s : State) (w : Waiting) (others : List Waiting) (runs : is_stopped s.registers ≡ false)
    (e : s.waiting ≡ w ∷ others) where
  looks : received s ≡ cond (side_for s w).on (looked_at s w others) (dropped s w others)
  looks = running s runs ∙ ap (first_received s) e

  looks_off : (side_for s w).on ≡ false → received s ≡ dropped s w others
  looks_off off = looks ∙ ap (λ b. cond b (looked_at s w others) (dropped s w others)) off

  looks_at : (empty : Bool) → (side_for s w).on ≡ true → is_empty (side_for s w).ring ≡ empty
      → received s ≡ cond empty (without_slot s w others) (slot_filled s w others (side_for s w))
  looks_at empty on is =
      looks ∙ ap (λ b. cond b (looked_at s w others) (dropped s w others)) on
      ∙ ap (λ b. cond b (without_slot s w others) (slot_filled s w others (side_for s w))) is

  drops_or_waits : (b : Bool) → (drops s.registers w.queue && w.offset == 0) ≡ b
      → without_slot s w others
      ≡ cond b
      (gives (Dropped NoSlot) (record s { registers = slotless_counted s.registers w.queue; waiting = others }))
      (gives Idle s)
  drops_or_waits b is =
      ap (λ c. cond c
      (gives (Dropped NoSlot) (record s { registers = slotless_counted s.registers w.queue; waiting = others }))
      (gives Idle s)) is

  answered : (answer : Result Filled RingFault) → (filling s w).answer ≡ answer
      → slot_filled s w others (side_for s w) ≡ slot_done s w others answer (filling s w).memory
  answered answer is = ap (λ a. slot_done s w others a (filling s w).memory) is

pub receiving_order : ReceivingHasAnOrder
unfolding step_of
receiving_order s runs w others e = record {
  off = λ off. looks_off s w others runs e off;
  slotless = λ on empty drops none.
      ap (λ (o : Outcome). o.reply)
      (looks_at s w others runs e true on empty
      ∙ drops_or_waits s w others runs e true (and_from _ _ drops (eq-eqb w.offset 0 none)));
  begun = λ on empty begun.
      looks_at s w others runs e true on empty
      ∙ drops_or_waits s w others runs e false
      (ap (λ b. drops s.registers w.queue && b) (ne_eqb w.offset 0 begun) ∙ and-false (drops s.registers w.queue));
  waits = λ on empty keeps.
      looks_at s w others runs e true on empty
      ∙ drops_or_waits s w others runs e false (ap (λ b. b && w.offset == 0) keeps);
  wrote = λ on some f is.
      ap (λ (o : Outcome). o.reply)
      (looks_at s w others runs e false on some ∙ answered s w others runs e (Ok f) is);
  fault = λ on some fault is.
      ap (λ (o : Outcome). o.reply)
      (looks_at s w others runs e false on some ∙ answered s w others runs e (Err fault) is);
}

-- Each reply is reported only in its own case.

kept : (s : State) (w : Waiting) → (drops s.registers w.queue ≡ false) ⊎ ((w.offset == 0) ≡ false)
    → (drops s.registers w.queue ≡ false) ⊎ (w.offset ≢ 0)
kept s w (inl keeps) = inl keeps
kept s w (inr begun) = inr (eqb-false w.offset 0 begun)

module _ (s : State) (w : Waiting) (others : List Waiting) where
  abbrev InCase : Outcome → Type 0
  InCase o = CaseOf s w o.reply

  slotless_case : IsSlotless s w → InCase (without_slot s w others)
  slotless_case none =
      cond_both (drops s.registers w.queue && w.offset == 0)
      (gives (Dropped NoSlot) (record s { registers = slotless_counted s.registers w.queue; waiting = others }))
      (gives Idle s) InCase
      (λ b. let parts = and_parts (drops s.registers w.queue) (w.offset == 0) b in
      (none, parts.0, eqb-true w.offset 0 parts.1))
      (λ b. (none, kept s w (and_cases (drops s.registers w.queue) (w.offset == 0) b)))

  done_case : HasSlot s w → (answer : Result Filled RingFault) → (filling s w).answer ≡ answer
      → InCase (slot_done s w others answer (filling s w).memory)
  done_case slot (Ok f) is = (slot, ap is_ok is)
  done_case slot (Err fault) is = (slot, ap is_ok is)

  looked_case : InCase (cond (side_for s w).on (looked_at s w others) (dropped s w others))
  looked_case =
      cond_both (side_for s w).on (looked_at s w others) (dropped s w others) InCase
      (λ on.
      cond_both (is_empty (side_for s w).ring) (without_slot s w others) (slot_filled s w others (side_for s w)) InCase
      (λ empty. slotless_case (record { on = on; empty = empty }))
      (λ some. done_case (record { on = on; some = some }) (filling s w).answer refl))
      (λ off. off)

pub in_its_case : EachReplyInItsCase
unfolding step_of
in_its_case s runs w others e =
    subst (λ (o : Outcome). CaseOf s w o.reply) (sym (looks s w others runs e)) (looked_case s w others)
