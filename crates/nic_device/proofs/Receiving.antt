-- Receive steps leave the device sound and change nothing outside their reach.
use Rattle.std.proofs.Common.{◌≡◌, ◌≢◌, ◌<◌, ◌≤◌, ◌+◌, ◌^◌, ℕ, true, false, List, [], ◌∷◌, length, drop, length-drop, refl, sym, ◌∙◌, subst, inl, inr, arith, Ok}
use Rattle.std.specs.Prelude.{⊤}
use Rattle.std.proofs.lemmas.Bool.{both_ways, cases_Bool, or_parts}
use Rattle.std.proofs.lemmas.List.Elements.{All-take, All-drop}
use Rattle.rx_ring.specs.DmaArena.Memory.{Memory}
use Rattle.rx_ring.specs.DmaRing.Receive.{written_back}
use Rattle.rx_ring.specs.DmaRing.Ring.{slots_of}
use Rattle.rx_ring.specs.DmaRing.declared.ring.Ring.{Ring}
use Rattle.rx_ring.specs.Fill.{Rest, Outcome as Filling, fill_of}
use Rattle.rx_ring.specs.declared.filled.Filled.{Filled}
use Rattle.rx_ring.proofs.Fills.{takes_piece, writes_inside_slot, fill_keeps_blocks}
use Rattle.rx_ring.proofs.Tests.{fill_cases, head_filled}
use Rattle.register_laws.specs.Sides.{receive_queue_of}
use Rattle.register_laws.proofs.Footprints.{within-refl}
use Rattle.nic_device.specs.Footprint.{receive_reach, StaysWithin}
use Rattle.nic_device.specs.Outcome.{Outcome, gives}
use Rattle.nic_device.specs.Receive.{received, first_received, piece_done, rest_of, slot_done, after_piece, slotless_counted}
use Rattle.nic_device.specs.Sound.{AreBytes, AreBlocks, AreWaiting, IsSound}
use Rattle.nic_device.specs.State.{State, Waiting}
use Rattle.nic_device.specs.Interrupt.{side_failed}
use Rattle.nic_device.specs.Step.{hands_out}
use Rattle.nic_device.proofs.Blocks.{AreBlocks-write_at, of_halves-small}
use Rattle.nic_device.proofs.Cases.{either_way}
use Rattle.nic_device.proofs.QueueCases.{filled_by, received_cases}
use Rattle.nic_device.proofs.Keeping.{sound-changed, sound-registers, sound-memory, sound-waiting}
use Rattle.nic_device.proofs.Leads.{Leads, leads-still, leads-to}
use Rattle.nic_device.proofs.Memory.{avoids-none}
use Rattle.nic_device.proofs.Pieces.{piece_fits}
use Rattle.nic_device.proofs.Queued.{AreWaiting-others, AreWaiting-after_piece, begun-after_piece, begun-unbegun, length-after_piece}
use Rattle.nic_device.proofs.Coming.{Comes}
use Rattle.nic_device.proofs.Raising.{slotless-comes, side_failed-comes, piece-comes, of_step, sides-failed, sides-piece, sides-slotless}
use Rattle.nic_device.proofs.SidesOn.{on_kept}
use Rattle.rx_ring.specs.DmaRing.declared.dir.Dir.TheVariants.{Rx, Tx}
use Rattle.register_file.specs.Queue.{is_on}
use Rattle.register_file.specs.Registers.{Registers}
use Rattle.register_file.specs.Settings.{is_stopped}
use Rattle.nic_device.specs.declared.event.Event.TheVariants as event
use Rattle.nic_device.specs.declared.event.Reply.TheVariants.{Idle, Dropped, Fault, Wrote}
use Rattle.nic_device.specs.declared.event.Why.{Why}
use Rattle.nic_device.specs.declared.event.Why.TheVariants.{NoSlot, QueueOff}
use Rattle.nic_device.specs.declared.event.Reply.{Reply}
use Rattle.rx_ring.specs.DmaArena.Block.{Block}

-- Each block in memory is still whole after a slot is filled.
AreBlocks-fill : (m : Memory) (r : Ring) (srrctl : ℕ) (rest : Rest) → AreBlocks m → AreBytes rest.bytes
    → AreBlocks (fill_of m r srrctl rest).memory
AreBlocks-fill m r srrctl rest h small =
    fill_cases (λ (o : Filling). AreBlocks o.memory) m r srrctl rest (λ fault. h)
    (λ set_up descriptor buffer.
    let f = head_filled m r srrctl rest in
    AreBlocks-write_at _ f.desc _
    (AreBlocks-write_at m f.at _ h (All-take (λ byte. byte < 256) f.len rest.bytes small))
    (of_halves-small rest.first (written_back f.len f.end)))

-- The first frame is for its queue, and no other frame is partly written.
waits_first : (s : State) (w : Waiting) (others : List Waiting) → s.waiting ≡ w ∷ others → IsSound s
    → AreWaiting (w ∷ others)
waits_first s w others e h = subst AreWaiting e h.waiting

room_first : (s : State) (w : Waiting) (others : List Waiting) → s.waiting ≡ w ∷ others → IsSound s
    → length (w ∷ others) ≤ s.fifo
room_first s w others e h = subst (λ (ws : List Waiting). length ws ≤ s.fifo) e h.room

-- The reach of a receive step for the first frame.
of_first : (s t : State) (w : Waiting) (others : List Waiting) (reply : Reply Block) → s.waiting ≡ w ∷ others
    → StaysWithin (receive_reach (w ∷ others) reply) s t → StaysWithin (receive_reach s.waiting reply) s t
of_first s t w others reply e stays = subst (λ ws. StaysWithin (receive_reach ws reply) s t) (sym e) stays

-- The first frame is dropped; the registers may change, except for transmit sides.
first_dropped : (s : State) (w : Waiting) (others : List Waiting) (reply : Reply Block) (r : Registers)
    → s.waiting ≡ w ∷ others → Comes ⊤ (of_step Rx w.queue) s.registers r
    → ((queue : ℕ) → is_on r Tx queue ≡ is_on s.registers Tx queue) → hands_out reply ≡ false
    → Leads s event.RxStep (gives reply (record s { registers = r; waiting = others }))
first_dropped s w others reply r e comes sides none =
    let fewer : true ≡ false → others ≡ s.waiting = λ no. cc in
    leads-to s event.RxStep reply _
    (λ h is.
    let first = waits_first s w others e h in
    let room = room_first s w others e h in
    sound-changed s r others s.staged h (comes.sound tt h.registers) (AreWaiting-others w others first)
    (begun-unbegun r others first.1) (omega arith) h.staged (λ queue off. h.bare queue (sym (sides queue) ∙ off)))
    (of_first s _ w others reply e (assumption (comes.within, fewer))) none refl

head-small : (s : State) (w : Waiting) (f : Filled) → f.head < slots_of (receive_queue_of s.registers w.queue).ring
    → f.head < 2 ^ 16
head-small s w f inside = omega arith

-- A piece is written.
module _ (s : State) (w : Waiting) (others : List Waiting) (e : s.waiting ≡ w ∷ others) (f : Filled)
    (is : (filled_by s w).answer ≡ Ok f) (on : is_on s.registers Rx w.queue ≡ true) where
  abbrev memory : Memory
  memory = (filled_by s w).memory

  -- If the piece doesn't end the frame, some bytes of the frame remain.
  some_left : AreWaiting (w ∷ others) → f.end ≡ false → w.offset + f.len < length w.frame
  some_left first more =
      let fits = piece_fits _ _ _ (rest_of w) f is in
      let left = length-drop w.offset w.frame in
      let offset = first.0.offset in
      let ends = (takes_piece _ _ _ _ f is).end in
      let short : f.len ≢ length (drop w.offset w.frame) = λ whole. both_ways f.end more (ends.1 whole) in
      omega arith

  filled_sound : IsSound s → IsSound (slot_done s w others (Ok f) memory).state
  filled_sound h =
      let first = waits_first s w others e h in
      let taken = takes_piece _ _ _ _ f is in
      let bytes = All-drop (λ byte. byte < 256) w.offset w.frame first.0.bytes in
      let small = head-small s w f taken.inside in
      let begun = begun-after_piece s.registers w others f on first in
      sound-registers (record s { memory = memory; waiting = after_piece w others f }) _
      (sound-waiting (record s { memory = memory }) _
      (sound-memory s memory h (AreBlocks-fill s.memory _ _ (rest_of w) h.blocks bytes))
      (AreWaiting-after_piece w others f (some_left first) first) begun
      (length-after_piece w others f s.fifo (room_first s w others e h)))
      ((piece-comes s.registers s.vfs w.queue f).sound small h.registers)
      (on_kept s.registers (piece_done s.registers s.vfs w.queue f) (sides-piece s.registers s.vfs w.queue f))

  filled_leads : Leads s event.RxStep (slot_done s w others (Ok f) memory)
  filled_leads = record {
    sound = λ h made. filled_sound h;
    stays = of_first s _ w others (Wrote w.queue f.slot f.end f.desc f.at f.len) e (record {
      registers = (piece-comes s.registers s.vfs w.queue f).within;
      blocks = λ n none.
          let parts = or_parts _ _ none in
          (writes_inside_slot _ _ _ _ f is).blocks n (avoids-none n f.desc 16 parts.0)
          (avoids-none n f.at f.len parts.1);
      lent = λ n no. (fill_keeps_blocks _ _ _ _).0 n;
      staged = λ queue no. refl;
      waiting = λ no. cc;
      out = λ no. refl;
      link = λ no. refl;
      image = refl;
      vfs = refl;
      fifo = refl;
    });
    hands = λ no. refl;
    faults = λ no. cc;
  }

just_dropped : (s : State) (w : Waiting) (others : List Waiting) (why : Why) → s.waiting ≡ w ∷ others
    → Leads s event.RxStep (gives (Dropped why) (record s { waiting = others }))
just_dropped s w others why e =
    first_dropped s w others (Dropped why) s.registers e
    (record { sound = λ good h. h; within = within-refl (of_step Rx w.queue) s.registers }) (λ queue. refl) refl

-- The side of the first frame's queue is enabled.
abbrev IsFirstOn : State → Type 0
IsFirstOn s = (w : Waiting) (others : List Waiting) → s.waiting ≡ w ∷ others → is_on s.registers Rx w.queue ≡ true

on_leads : (s : State) → IsFirstOn s → Leads s event.RxStep (received s)
on_leads s first = received_cases (λ (o : Outcome). IsFirstOn s → Leads s event.RxStep o) s (record {
  idle = λ on. leads-still s event.RxStep Idle (λ no. refl);
  dropped = λ w others e why on. just_dropped s w others why e;
  slotless = λ w others e on.
      first_dropped s w others (Dropped NoSlot) (slotless_counted s.registers w.queue) e
      (slotless-comes s.registers w.queue) (sides-slotless s.registers w.queue Tx) refl;
  fault = λ w others e fault on.
      first_dropped s w others (Fault w.queue fault) (side_failed s.registers Rx w.queue) e
      (side_failed-comes s.registers Rx w.queue)
      (λ queue. sides-failed s.registers Rx Tx w.queue queue (λ bit. refl)) refl;
  filled = λ w others e f is on. filled_leads s w others e f is (on w others e);
}) first

-- The side is disabled, and the frame is dropped.
off_leads : (s : State) (w : Waiting) (others : List Waiting) → s.waiting ≡ w ∷ others
    → is_on s.registers Rx w.queue ≡ false → Leads s event.RxStep (received s)
off_leads s w others e off =
    either_way (Leads s event.RxStep) (is_stopped s.registers) _ _ (leads-still s event.RxStep Idle (λ no. refl))
    (subst (λ ws. Leads s event.RxStep (first_received s ws)) (sym e) (rw off (just_dropped s w others QueueOff e)))

by_first : (s : State) (ws : List Waiting) → s.waiting ≡ ws → Leads s event.RxStep (received s)
by_first s [] e = on_leads s (λ w others first. let no : [] ≡ w ∷ others = sym e ∙ first in cc)
by_first s (w ∷ others) e =
    elim (cases_Bool (is_on s.registers Rx w.queue)) as (λ _. Leads s event.RxStep (received s)) [
      | inl on ↦ on_leads s (λ v rest first.
          let same : w ∷ others ≡ v ∷ rest = sym e ∙ first in
          let is : w ≡ v = cc in
          subst (λ (x : Waiting). is_on s.registers Rx x.queue ≡ true) is on)
      | inr off ↦ off_leads s w others e off
    ]

pub receive_leads : (s : State) → Leads s event.RxStep (received s)
receive_leads s = by_first s s.waiting refl
