-- Which slot of a receive ring is written, and which has a fault.
use Rattle.std.proofs.Common.{cond, ◌≡◌, ◌+◌, ◌*◌, ◌%◌, ◌^◌, ◌&&◌, ◌==◌, ℕ, Bool, true, false, List, ◌∷◌, length, length-drop, inl, inr, ap, sym, ◌∙◌, subst, arith}
use Rattle.std.specs.Prelude.{min}
use Rattle.nic_device.specs.DmaRing.Receive.{buffer_of}
use Rattle.nic_device.specs.RxRing.Control.{descriptor_type_of, buffer_size_of}
use Rattle.nic_device.specs.RxRing.Fill as fill
use Rattle.nic_device.specs.Receive.{first_received, without_slot, slot_filled, slot_done, is_empty, rest_of, slotless_counted}
use Rattle.datasheet_laws.specs.FramePrelude.{DescType, Dropped, Idle, NoBufferSize, NoSlot, NotLent, Outcome, Outside}
use Rattle.datasheet_laws.specs.FramePrelude.{QueueOff}
use Rattle.datasheet_laws.specs.FramePrelude.{Rdbah, Rdbal, Rdh, Ring, Srrctl, State, Waiting, drops, first_half, gives}
use Rattle.datasheet_laws.specs.FramePrelude.{is_lent}
use Rattle.datasheet_laws.specs.FramePrelude.{is_outside, is_stopped, read_at, receive_queue_of, step_of, word_of}
use Rattle.datasheet_laws.proofs.FramePrelude.{both_ways, cond_both, either_way, eqb-false, eqb-true}
use Rattle.datasheet_laws.specs.Faults.{IsInside, IsSetUp, descriptor_address, buffer_address, buffer_size}
use Rattle.datasheet_laws.specs.Faults.{piece_length, SlotIsSo, SlotsHaveTheirFaults}
use Rattle.datasheet_laws.proofs.AtHead.{size-is}
use Rattle.datasheet_laws.proofs.Slots.{low-half, slots-inside, inside-slots}

module _ (s : State) (w : Waiting) (others : List Waiting) where
  abbrev ring : Ring
  ring = (receive_queue_of s.registers w.queue).ring

  abbrev control : ℕ
  control = word_of s.registers Srrctl w.queue

  abbrev Ends : fill.Outcome → Type 0
  Ends o = SlotIsSo s w (slot_done s w others o.answer o.memory).reply

  inside-is : is_outside ring ≡ false → IsInside s.registers w.queue
  inside-is e =
      let both = slots-inside ring e in
      let head = both.0 in
      let tail = both.1 in
      record { head = omega arith; tail = omega arith }

  outside-is : is_outside ring ≡ true → IsInside s.registers w.queue → ⊥
  outside-is e h =
      both_ways (is_outside ring) (inside-slots ring (omega (arith, h.head)) (omega (arith, h.tail))) e

  descriptor-is : fill.head_address ring ≡ descriptor_address s.registers w.queue
  descriptor-is =
      ap (λ n. (word_of s.registers Rdbah w.queue * 2 ^ 32 + word_of s.registers Rdbal w.queue + 16 * n) % 2 ^ 64)
      (sym (low-half (word_of s.registers Rdh w.queue)))

  buffer-is : fill.buffer_address s.memory ring ≡ buffer_address s w.queue
  buffer-is = ap (λ a. buffer_of (first_half (read_at s.memory a 16))) descriptor-is

  length-is : fill.piece_length (buffer_size_of control) (rest_of w) ≡ piece_length s w
  length-is =
      ap (λ n. min n (length (rest_of w).bytes)) (size-is control)
      ∙ ap (min (buffer_size s.registers w.queue)) (length-drop w.offset w.frame)

  module _ (set_up : IsSetUp s.registers w.queue) where
    abbrev at_bytes : fill.Outcome
    at_bytes =
        fill.fill_buffer_of s.memory ring (rest_of w) (fill.buffer_address s.memory ring)
        (fill.piece_length (buffer_size_of control) (rest_of w))

    descriptor_at : {b : Bool} → is_lent s.memory (fill.head_address ring) 16 ≡ b
        → is_lent s.memory (descriptor_address s.registers w.queue) 16 ≡ b
    descriptor_at e = ap (λ a. is_lent s.memory a 16) (sym descriptor-is) ∙ e

    buffer_at : {b : Bool}
        → is_lent s.memory (fill.buffer_address s.memory ring)
        (fill.piece_length (buffer_size_of control) (rest_of w)) ≡ b
        → is_lent s.memory (buffer_address s w.queue) (piece_length s w) ≡ b
    buffer_at e =
        ap (λ a. is_lent s.memory a (piece_length s w)) (sym buffer-is)
        ∙ ap (is_lent s.memory (fill.buffer_address s.memory ring)) (sym length-is) ∙ e

    bytes_so : is_lent s.memory (fill.head_address ring) 16 ≡ true → Ends at_bytes
    unfolding fill.fill_buffer_of
    bytes_so here =
        let at = fill.buffer_address s.memory ring in
        let len = fill.piece_length (buffer_size_of control) (rest_of w) in
        cond_both (is_lent s.memory at len)
        (fill.filled_outcome s.memory (rest_of w) (fill.filled_of ring (rest_of w) at len))
        (fill.fault_outcome s.memory (NotLent at)) Ends
        (λ there.
        (record { set_up = set_up; descriptor = descriptor_at here; buffer = buffer_at there }, length-is))
        (λ lacks.
        (set_up, inr (record { descriptor = descriptor_at here; reported = buffer-is; lacks = buffer_at lacks })))

    slot_so : Ends (fill.fill_slot_of s.memory ring (rest_of w) (buffer_size_of control))
    unfolding fill.fill_slot_of
    slot_so =
        cond_both (is_lent s.memory (fill.head_address ring) 16) at_bytes
        (fill.fault_outcome s.memory (NotLent (fill.head_address ring))) Ends bytes_so
        (λ lacks. (set_up, inl (record { reported = descriptor-is; lacks = descriptor_at lacks })))

  fill_so : Ends (fill.fill_of s.memory ring control (rest_of w))
  unfolding fill.fill_of
  fill_so =
      let slot = fill.fill_slot_of s.memory ring (rest_of w) (buffer_size_of control) in
      let sized = cond (buffer_size_of control == 0) (fill.fault_outcome s.memory NoBufferSize) slot in
      cond_both (is_outside ring) (fill.fault_outcome s.memory Outside)
      (cond (descriptor_type_of control == 1) sized (fill.fault_outcome s.memory DescType)) Ends outside-is
      (λ within.
      cond_both (descriptor_type_of control == 1) sized (fill.fault_outcome s.memory DescType) Ends
      (λ one. let type = eqb-true (descriptor_type_of control) 1 one in
      cond_both (buffer_size_of control == 0) (fill.fault_outcome s.memory NoBufferSize) slot Ends
      (λ none. (inside-is within, type, sym (size-is control) ∙ eqb-true (buffer_size_of control) 0 none))
      (λ some.
      slot_so (record {
        inside = inside-is within;
        type = type;
        sized = λ e. eqb-false (buffer_size_of control) 0 some (size-is control ∙ e);
      })))
      (λ other. (inside-is within, eqb-false (descriptor_type_of control) 1 other)))

  abbrev So : Outcome → Type 0
  So o = SlotIsSo s w o.reply

  first_so : So (first_received s (w ∷ others))
  first_so =
      let side = receive_queue_of s.registers w.queue in
      either_way So side.on
      (cond (is_empty side.ring) (without_slot s w others) (slot_filled s w others side))
      (gives (Dropped QueueOff) (record s { waiting = others }))
      (either_way So (is_empty side.ring) (without_slot s w others) (slot_filled s w others side)
      (either_way So (drops s.registers w.queue && w.offset == 0)
      (gives (Dropped NoSlot) (record s { registers = slotless_counted s.registers w.queue; waiting = others }))
      (gives Idle s) tt tt)
      fill_so)
      tt

pub slots_so : SlotsHaveTheirFaults
unfolding step_of
slots_so s w others e =
    subst (λ ws. So s w others (cond (is_stopped s.registers) (gives Idle s) (first_received s ws))) (sym e)
    (either_way (So s w others) (is_stopped s.registers) (gives Idle s) (first_received s (w ∷ others)) tt
    (first_so s w others))
