-- What an event that leaves a queue alone does to the queue's sides.
use Rattle.device_laws.proofs.{KeptSettings.settings_stand, Missed.counts-miss_side, RepliesReceived.receiving_tells}
use Rattle.device_laws.proofs.{RepliesSent.transmitting_tells, Standing.stays_within, StandingQueues.receiving_rest}
use Rattle.device_laws.specs.Replies.{received_tells, sent_tells}
use Rattle.ring_laws.proofs.{Reports.left-block, Left.left-setting, Left.left-side, Left.step_event}
use Rattle.ring_laws.specs.Left.{IsSilent, LeftDid, Rests, SidesDo, fetch_on, fill_on, is_step_of, is_switch_of}
use Rattle.ring_laws.specs.Prelude.{Block, Blocks, Dir, Event, Fetched, Filled, IsSound, Outcome, RingFault, Rx}
use Rattle.ring_laws.specs.Prelude.{State, Tx, Waiting, Watched, gives, receive_queue_of, rest_of, step_of}
use Rattle.ring_laws.specs.Sides.{LeavesSide, as_wanted, side_of}
use Rattle.ring_laws.specs.{Prelude.transmit_queue_of, Segments.frames_added, Segments.pieces, Sides.IsTried}
use Rattle.ring_laws.{proofs.Left.step_is, proofs.Left.switch_is, specs.Left.Deed, specs.Left.IsLeft}
use Rattle.device_lock.proofs.NicDevice.RegisterLaws.{Stands.receive_stands, Switches.receive-switched, Switches.transmit-switched}
use Rattle.device_lock.proofs.NicDevice.{Cases.switched_cases, Coming.counted_in, Raising.comes-itself, Raising.have_counters}
use Rattle.device_lock.specs.NicDevice.declared.event.{Reply.TheVariants.Idle, Why.TheVariants.NoSlot, Why.TheVariants.QueueOff}
use Rattle.device_lock.specs.NicDevice.{Receive.slotless_counted, RegisterFile.Settings.drops, Transmit.is_silent}
use Rattle.device_lock.specs.NicDevice.{Transmit.slot_done, declared.event.Reply.TheVariants.Dropped}
use Rattle.std.proofs.Common.{List, [], arith, false, inl, inr, refl, subst, true, ℕ, ◌<◌, ◌∷◌, ◌≡◌, ◌⊎◌}
use Rattle.std.proofs.lemmas.Bool.{cases_Bool, cases_eq, eq-eqb, eqb-true, lt-ltb, or_parts}
use Rattle.std.specs.Prelude.{Result, ◌&&◌, ◌==◌}
use Rattle.std.{proofs.lemmas.Grind.common_steps, proofs.lemmas.List.get_or-set_same, specs.Prelude.IsFalse}
use Rattle.device_lock.specs.NicDevice.Receive as receive
use Rattle.device_lock.specs.NicDevice.declared.event.Event.TheVariants as event

-- The cases of a receive step: a slot is tried only if its queue is on and the slot belongs to the device.

pub record Receives (P : Outcome → Type 0) (s : State) : Type 0 where
  pub idle : P (gives Idle s)
  pub dropped : (w : Waiting) (others : List Waiting) → s.waiting ≡ w ∷ others
      → (receive_queue_of s.registers w.queue).on ≡ false → P (gives (Dropped QueueOff) (record s { waiting = others }))
  pub slotless : (w : Waiting) (others : List Waiting) → s.waiting ≡ w ∷ others
      → (drops s.registers w.queue && w.offset == 0) ≡ true
      → P (gives (Dropped NoSlot)
      (record s { registers = slotless_counted s.registers w.queue; waiting = others }))
  pub tried : (w : Waiting) (others : List Waiting) → s.waiting ≡ w ∷ others → IsTried (side_of Rx w.queue s)
      → (answer : Result Filled RingFault) → (fill_on s w.queue (rest_of w)).answer ≡ answer
      → P (receive.slot_done s w others answer (fill_on s w.queue (rest_of w)).memory)

pub step_cases : (P : Outcome → Type 0) (s : State) → Receives P s → P (step_of s event.RxStep)
unfolding step_of
step_cases P s r = grind arith

module _ (queue : ℕ) (s : State) (sound : IsSound s) where
  -- If the slot is tried for the oldest waiting frame, either the slot is filled or the side is shut.
  worked : (w : Waiting) (others : List Waiting) → s.waiting ≡ w ∷ others → IsTried (side_of Rx w.queue s)
      → (answer : Result Filled RingFault) → (fill_on s w.queue (rest_of w)).answer ≡ answer
      → step_of s event.RxStep ≡ receive.slot_done s w others answer (fill_on s w.queue (rest_of w)).memory
      → Deed Rx w.queue s event.RxStep
  worked w others e tried answer was is =
      let reported = subst (λ (x : Outcome). received_tells x.reply s x.state) is (receiving_tells s sound) in
      grind (arith, eq-eqb)

  pub receiving_did : Deed Rx queue s event.RxStep
  receiving_did =
      step_cases (λ o. step_of s event.RxStep ≡ o → Deed Rx queue s event.RxStep) s (record {
        idle = grind arith;
        dropped = λ w others e off is. grind arith;
        slotless = λ w others e drop is.
            grind (arith, common_steps, receive_stands, counts-miss_side, counted_in, have_counters, comes-itself);
        tried = λ w others e tried answer was is. elim (cases_eq w.queue queue) [
          | inl own ↦ subst (λ q. Deed Rx q s event.RxStep) own (worked w others e tried answer was is)
          | inr ne ↦
              let rest = (receiving_rest s).receive queue (grind arith) in
              let tells = receiving_tells s sound in
              grind (arith, eqb-true)
        ];
      }) refl

-- The cases of a transmit step: a slot is fetched only if the queue isn't silent.

pub added-none : (out : List (ℕ × List ℕ)) → frames_added out out ≡ []
added-none out = grind (arith, common_steps)

module _ (queue : ℕ) (s : State) (sound : IsSound s) (small : queue < 128) where
  -- If the queue isn't silent, the step either takes the slot at the head or shuts the side.
  sent : IsFalse (is_silent s queue (transmit_queue_of s.registers queue)) → (answer : Result Fetched RingFault)
      → (fetch_on s queue).answer ≡ answer
      → step_of s (event.TxStep queue) ≡ slot_done s queue answer (fetch_on s queue).memory (fetch_on s queue).staged
      → Deed Tx queue s (event.TxStep queue)
  sent loud answer was is =
      let tried : IsTried (side_of Tx queue s) = grind (arith, or_parts) in
      let reported = subst (λ (x : Outcome). sent_tells queue x.reply s x.state) is (transmitting_tells s sound queue)
      in
      grind (arith, eq-eqb, added-none)

  stepped : (dir : Dir) → Deed dir queue s (step_event dir queue)
  unfolding step_of
  stepped Rx = receiving_did queue s sound
  stepped Tx = elim (cases_Bool (is_silent s queue (transmit_queue_of s.registers queue))) [
    | inl silent ↦ grind (arith, added-none, lt-ltb)
    | inr loud ↦ sent loud _ refl (grind (arith, lt-ltb))
  ]

  -- A step that switches a side: the side gets its requested state, or nothing changes.

  pub switching_did : (dir : Dir) → Rests dir queue s (event.QueueStep dir queue)
  unfolding step_of
  switching_did dir =
      let receive = receive-switched s.registers sound.registers.shape queue small in
      let transmit = transmit-switched s.registers sound.registers.shape queue small in
      let is = switched_cases (λ o. LeavesSide dir queue s o.state
      ⊎ (side_of dir queue o.state ≡ as_wanted (side_of dir queue s))) s dir queue (inl refl) (inl refl)
      (inr (grind (arith, get_or-set_same, sound.staged.queues))) in
      grind arith

-- What an event that leaves a queue alone does to the queue's sides.

pub received-none : (queue : ℕ) (s : State) (e : Event Block) → is_step_of Rx queue e ≡ false → pieces queue s e ≡ []
received-none queue s e other = grind arith

pub silent_else : (dir : Dir) (queue : ℕ) (s : State) (e : Event Block) → is_step_of dir queue e ≡ false
    → IsSilent dir queue s e
silent_else dir queue s e other = grind (arith, common_steps)

pub side_did : SidesDo
side_did dir queue s e sound small left =
    let own = stepped queue s sound small dir in
    let switched = switching_did queue s sound small dir in
    let steps = cases_Bool (is_step_of dir queue e) in
    let switches = cases_Bool (is_switch_of dir queue e) in
    grind (arith, left, silent_else dir queue s e, step_is dir queue e, switch_is dir queue e)

pub left_deed : (dir : Dir) (w : Watched) (mine : Blocks) (s : State) (e : Event Block) → IsLeft w mine s e
    → Deed dir w.queue s e
left_deed dir w mine s e x = side_did dir w.queue s e x.sound x.small (left-side w s x.vfs dir e x.registers)

pub left_did : LeftDid
left_did w mine s e x =
    let stays = settings_stand s e (left-setting w s x.vfs e x.registers) in
    search (left_deed, (stays_within s e).vfs, left-block)
