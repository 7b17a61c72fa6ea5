-- Which fault a transmit step has.
use Rattle.std.proofs.Common.{◌≡◌, ◌<◌, ◌≤◌, ◌⊎◌, ◌+◌, ◌*◌, ◌/◌, ◌%◌, ◌^◌, ◌==◌, ◌||◌, ℕ, Bool, true, false, not, cond, nat_lt, List, ◌++◌, length, slice_index, Option, Some, None, unwrap_or, inl, inr, refl, ap, sym, ◌∙◌, subst, arith}
use Rattle.std.proofs.lemmas.Bool.{cond_both, both_ways, or_cases, or_parts, not-true, not-false, ltb-true, ltb-false, eqb-true, eqb-false, cases_lt}
use Rattle.nic_device.specs.DmaRing.declared.transmit.Command.{Command}
use Rattle.nic_device.specs.TxRing.Fetch.{command_in, buffer_in, buffer_bytes, is_context, is_data, data_fault_of, descriptor_fault_of, fault_of, outcome_of, fetch_of, context_outcome, data_outcome}
use Rattle.nic_device.specs.TxRing.Fetch as fetch
use Rattle.nic_device.specs.TxRing.Report.{head_address, new_head, back_of, can_report, report_address, report_length}
use Rattle.nic_device.specs.TxRing.declared.tx.Tx.{Tx}
use Rattle.nic_device.specs.Transmit.{transmitted, queue_sent, is_silent, slot_fetched, slot_done, fetched_reply, staged_by, sending_of}
use Rattle.nic_device.proofs.Blocks.{read_at-small}
use Rattle.datasheet_laws.specs.FramePrelude.{Fetched, Idle, IsSound, NoQueue, NotLent, Outcome, Ring, RingFault, State}
use Rattle.datasheet_laws.specs.FramePrelude.{Tdbah}
use Rattle.datasheet_laws.specs.FramePrelude.{Tdbal, Tdh, Tdwbah, Tdwbal, command_of, first_half, frame_of, gives, has_bit}
use Rattle.datasheet_laws.specs.FramePrelude.{is_lent, is_outside, place, second_half, step_of, transmit_queue_of, word_of}
use Rattle.datasheet_laws.proofs.FramePrelude.{either_way, get_or_past, word_small}
use Rattle.datasheet_laws.specs.Bits.{bit, field}
use Rattle.datasheet_laws.specs.Transmitting.{head_descriptor}
use Rattle.datasheet_laws.specs.TransmitFaults.{IsInside, descriptor_address, buffer_address, buffer_length, type_in}
use Rattle.datasheet_laws.specs.TransmitFaults.{report_bit, AsksOffload}
use Rattle.datasheet_laws.specs.TransmitFaults.{HasDescriptor, IsAdvanced, IsPlain, IsShort, HasBuffer, IsReportedAt}
use Rattle.datasheet_laws.specs.TransmitFaults.{HasFault, CanReport, DescriptorIsSo, DescriptorsHaveTheirFaults}
use Rattle.datasheet_laws.proofs.FrameBits.{one-has, zero-has}
use Rattle.datasheet_laws.proofs.GoingOut.{ring, descriptor, head-is}
use Rattle.datasheet_laws.proofs.Limits.{is-limit}
use Rattle.datasheet_laws.proofs.Slots.{low-half, slots-inside, inside-slots}
use Rattle.datasheet_laws.proofs.TransmitBytes as bytes

-- A bit, and its test.
bit-one : (n word : ℕ) (b : Bool) → b ≡ (bit n word == 1) → b ≡ true → bit n word ≡ 1
bit-one n word b e on = one-has n word (sym e ∙ on)

bit-zero : (n word : ℕ) (b : Bool) → b ≡ (bit n word == 1) → b ≡ false → bit n word ≡ 0
bit-zero n word b e off = zero-has n word (sym e ∙ off)

module _ (s : State) (h : IsSound s) (queue : ℕ) where
  abbrev r : Ring
  r = ring s queue

  abbrev d : List ℕ
  d = head_descriptor s queue

  abbrev pub c : Command
  c = command_in (descriptor s queue)

  abbrev pub tx : Tx
  tx = sending_of s.registers (transmit_queue_of s.registers queue)

  pub small : (k : ℕ) → slice_index d k < 256
  small k = elim (cases_lt k (length d)) as (λ _. slice_index d k < 256) [
    | inl inside ↦ read_at-small s.memory h.blocks _ 16 k 0 inside
    | inr past ↦ rw (get_or_past d k 0 past) (omega arith)
  ]

  same : command_of (second_half d) ≡ c
  same = ap (λ x. command_of (second_half x)) (head-is s queue)

  extended-is : c.extended ≡ (bit 5 (slice_index d 11) == 1)
  extended-is = ap (λ (x : Command). x.extended) (sym same) ∙ bytes.extended-is d small

  pub report-is : c.report ≡ (bit 3 (slice_index d 11) == 1)
  report-is = ap (λ (x : Command). x.report) (sym same) ∙ bytes.report-is d small

  end-is : c.end ≡ (bit 0 (slice_index d 11) == 1)
  end-is = ap (λ (x : Command). x.end) (sym same) ∙ bytes.end-is d small

  pub kind-is : c.kind ≡ type_in s queue
  kind-is = ap (λ (x : Command). x.kind) (sym same) ∙ bytes.kind-is d small

  length-is : c.len ≡ buffer_length s queue
  length-is = ap (λ (x : Command). x.len) (sym same) ∙ bytes.len-is d small

  buffer-is : buffer_in (descriptor s queue) ≡ buffer_address s queue
  buffer-is = ap first_half (sym (head-is s queue)) ∙ bytes.first-is d small

  offload-is : c.offload
      ≡ (bit 6 (slice_index d 11) == 1 || bit 7 (slice_index d 11) == 1 || not (field 5 0 (slice_index d 13) == 0))
  offload-is = ap (λ (x : Command). x.offload) (sym same) ∙ bytes.offload-is d small

  asks : c.offload ≡ true → AsksOffload s queue
  asks is =
      let vle = bit 6 (slice_index d 11) == 1 in
      let tse = bit 7 (slice_index d 11) == 1 in
      let popts = not (field 5 0 (slice_index d 13) == 0) in
      elim (or_cases (vle || tse) popts (sym offload-is ∙ is)) as (λ _. AsksOffload s queue) [
        | inl two ↦ elim (or_cases vle tse two) as (λ _. AsksOffload s queue) [
          | inl one ↦ inl (one-has 6 (slice_index d 11) one)
          | inr one ↦ inr (inl (one-has 7 (slice_index d 11) one))
        ]
        | inr some ↦ inr (inr (eqb-false (field 5 0 (slice_index d 13)) 0 (not-true _ some)))
      ]

  asks-none : c.offload ≡ false → ¬ AsksOffload s queue
  asks-none off asked =
      let vle = bit 6 (slice_index d 11) == 1 in
      let tse = bit 7 (slice_index d 11) == 1 in
      let popts = not (field 5 0 (slice_index d 13) == 0) in
      let parts = or_parts (vle || tse) popts (sym offload-is ∙ off) in
      let two = or_parts vle tse parts.0 in
      let six = zero-has 6 (slice_index d 11) two.0 in
      let seven = zero-has 7 (slice_index d 11) two.1 in
      let none = eqb-true (field 5 0 (slice_index d 13)) 0 (not-false _ parts.1) in
      elim asked as (λ _. ⊥) [
        | inl one ↦ omega arith
        | inr (inl one) ↦ omega arith
        | inr (inr some) ↦ some none
      ]

  inside-is : is_outside r ≡ false → IsInside s.registers queue
  inside-is e =
      let both = slots-inside r e in
      let head = both.0 in
      let tail = both.1 in
      record { head = omega arith; tail = omega arith }

  outside-is : is_outside r ≡ true → ¬ IsInside s.registers queue
  outside-is e i = both_ways (is_outside r) (inside-slots r (omega (arith, i.head)) (omega (arith, i.tail))) e

  pub address-is : head_address r ≡ descriptor_address s.registers queue
  address-is =
      ap (λ n. (word_of s.registers Tdbah queue * 2 ^ 32 + word_of s.registers Tdbal queue + 16 * n) % 2 ^ 64)
      (sym (low-half (word_of s.registers Tdh queue)))

  pub reported-at : IsReportedAt s.registers queue (report_address r tx) (report_length tx.writeback)
  reported-at =
      let low = word_of s.registers Tdwbal queue in
      let at = word_of s.registers Tdwbah queue * 2 ^ 32 + 4 * (low / 4) in
      let fits = word_small s.registers h.registers (place Tdwbal queue) in
      let upper : low / 4 ≡ field 31 2 low = omega arith in
      cond_both (has_bit 0 low) (Some at) None
      (λ o. IsReportedAt s.registers queue (unwrap_or o (head_address r)) (report_length o))
      (λ on. inl (one-has 0 low on, ap (λ n. word_of s.registers Tdwbah queue * 2 ^ 32 + 4 * n) upper, refl))
      (λ off. inr (zero-has 0 low off, address-is, refl))

  -- The tests for faults, in their order.

  abbrev FaultSo : Option RingFault → Type 0
  FaultSo (Some fault) = HasFault s queue fault
  FaultSo None = IsAdvanced s queue 2 ⊎ (HasBuffer s queue × CanReport s queue)

  abbrev staged : ℕ
  staged = length (staged_by s queue)

  lent-buffer : {b : Bool} → is_lent s.memory (buffer_in (descriptor s queue)) c.len ≡ b
      → is_lent s.memory (buffer_address s queue) (buffer_length s queue) ≡ b
  lent-buffer e = (λ k. is_lent s.memory (sym buffer-is k) (sym length-is k)) ∙ e

  report_so : HasBuffer s queue → (b : Bool) → can_report s.memory r tx c.report ≡ b
      → FaultSo (cond (not b) (Some (NotLent (report_address r tx))) None)
  report_so full true can =
      inr (
        full,
        record {
          address = report_address r tx;
          bytes = report_length tx.writeback;
          reported = reported-at;
          lent = elim (or_cases (not c.report)
              (is_lent s.memory (report_address r tx) (report_length tx.writeback)) can)
              as (λ _. (report_bit s queue ≡ 0)
              ⊎ (is_lent s.memory (report_address r tx) (report_length tx.writeback) ≡ true)) [
                | inl unasked ↦ inl (bit-zero 3 (slice_index d 11) c.report report-is (not-true c.report unasked))
                | inr lent ↦ inr lent
              ];
        },
      )
  report_so full false cannot =
      let parts = or_parts (not c.report)
      (is_lent s.memory (report_address r tx) (report_length tx.writeback)) cannot in
      inr (inr (record {
        buffer = full;
        asked = bit-one 3 (slice_index d 11) c.report report-is (not-false c.report parts.0);
        bytes = report_length tx.writeback;
        reported = reported-at;
        lacks = parts.1;
      }))

  data_so : IsAdvanced s queue 3 → FaultSo (data_fault_of s.memory r tx staged (descriptor s queue))
  unfolding data_fault_of
  data_so three =
      let limit-so = is-limit s.registers h.registers in
      cond_both c.offload _ _ FaultSo (λ offload. (three, asks offload)) (λ none.
      let plain : IsPlain s queue = record { advanced = three; none = asks-none none } in
      cond_both (nat_lt tx.limit (staged + c.len)) _ _ FaultSo
      (λ long. let above = ltb-true tx.limit (staged + c.len) long in
      (plain, record { limit = tx.limit; is = limit-so; above = subst (λ n. tx.limit < staged + n) length-is above }))
      (λ room. let within = ltb-false tx.limit (staged + c.len) room in
      let short : IsShort s queue =
      record { limit = tx.limit; is = limit-so; within = subst (λ n. staged + n ≤ tx.limit) length-is within } in
      cond_both (not (is_lent s.memory (buffer_in (descriptor s queue)) c.len)) _ _ FaultSo
      (λ lacks. inr (inl (record {
        plain = plain;
        short = short;
        reported = buffer-is;
        lacks = ap (λ a. is_lent s.memory a (buffer_length s queue)) buffer-is ∙ lent-buffer (not-true _ lacks);
      })))
      (λ there.
      report_so (record { plain = plain; short = short; lent = lent-buffer (not-false _ there) })
      (can_report s.memory r tx c.report) refl)))

  descriptor_so : HasDescriptor s queue → FaultSo (descriptor_fault_of s.memory r tx staged (descriptor s queue))
  unfolding descriptor_fault_of
  descriptor_so here =
      cond_both (not c.extended) _ _ FaultSo
      (λ legacy. (here, bit-zero 5 (slice_index d 11) c.extended extended-is (not-true c.extended legacy)))
      (λ advanced.
      let extended = bit-one 5 (slice_index d 11) c.extended extended-is (not-false c.extended advanced) in
      cond_both (is_context c) _ _ FaultSo
      (λ two. inl (record { descriptor = here; extended = extended; type = sym kind-is ∙ eqb-true c.kind 2 two }))
      (λ not_two.
      cond_both (is_data c) _ _ FaultSo
      (λ three. data_so (record {
        descriptor = here;
        extended = extended;
        type = sym kind-is ∙ eqb-true c.kind 3 three;
      }))
      (λ not_three. (
        here,
        extended,
        (λ e. eqb-false c.kind 2 not_two (kind-is ∙ e)),
        λ e. eqb-false c.kind 3 not_three (kind-is ∙ e),
      ))))

  fault_so : FaultSo (fault_of s.memory r tx staged)
  unfolding fault_of
  fault_so =
      cond_both (is_outside r) _ _ FaultSo outside-is (λ within.
      cond_both (not (is_lent s.memory (head_address r) 16)) _ _ FaultSo
      (λ lacks. inl (record { inside = inside-is within; reported = address-is; lacks = not-true _ lacks }))
      (λ there.
      descriptor_so (record {
        inside = inside-is within;
        lent = ap (λ a. is_lent s.memory a 16) (sym address-is) ∙ not-false _ there;
      })))

  -- The reply.

  abbrev Ends : fetch.Outcome → Type 0
  Ends o = DescriptorIsSo s queue (slot_done s queue o.answer o.memory o.staged).reply

  ends_so : (b : Bool) → c.end ≡ b → HasBuffer s queue → CanReport s queue → (f : Fetched) (frame : List ℕ)
      → DescriptorIsSo s queue (fetched_reply queue f (cond b (Some frame) None))
  ends_so true is full report f frame =
      record { buffer = full; report = report; end = bit-one 0 (slice_index d 11) c.end end-is is }
  ends_so false is full report f frame =
      inr (record { buffer = full; report = report; end = bit-zero 0 (slice_index d 11) c.end end-is is })

  context_so : is_context c ≡ true → FaultSo None → Ends (context_outcome s.memory (staged_by s queue) r)
  context_so two (inl context) = inl context
  context_so two (inr full) =
      let kind = eqb-true c.kind 2 two in
      let other = full.0.plain.advanced.type in
      let same_kind = kind-is in
      absurd (omega arith)

  full_so : is_context c ≡ false → FaultSo None
      → Ends (data_outcome s.memory (staged_by s queue) r tx (descriptor s queue))
  full_so not_two (inl context) = absurd (eqb-false c.kind 2 not_two (kind-is ∙ context.type))
  full_so not_two (inr full) =
      let frame = frame_of tx.pad (staged_by s queue ++ buffer_bytes s.memory (descriptor s queue)) in
      ends_so c.end refl full.0 full.1 (record {
        slot = r.head;
        head = new_head r;
        back = back_of r tx c.report;
        rs = c.report;
        frame = cond c.end (Some frame) None;
      }) frame

  outcome_so : (o : Option RingFault) → FaultSo o → Ends (outcome_of s.memory (staged_by s queue) r tx o)
  outcome_so (Some fault) so = so
  outcome_so None so =
      cond_both (is_context c) (context_outcome s.memory (staged_by s queue) r)
      (data_outcome s.memory (staged_by s queue) r tx (descriptor s queue)) Ends (λ two. context_so two so)
      (λ not_two. full_so not_two so)

  abbrev So : Outcome → Type 0
  So o = DescriptorIsSo s queue o.reply

  slot_so : So (slot_fetched s queue (transmit_queue_of s.registers queue))
  unfolding fetch_of
  slot_so = outcome_so (fault_of s.memory r tx staged) fault_so

  sent_so : So (transmitted s queue)
  sent_so =
      let side = transmit_queue_of s.registers queue in
      either_way So (nat_lt queue 128) (queue_sent s queue side) (gives NoQueue s)
      (either_way So (is_silent s queue side) (gives Idle s) (slot_fetched s queue side) tt slot_so) tt

pub faults_so : DescriptorsHaveTheirFaults
unfolding step_of
faults_so s h queue = sent_so s h queue
