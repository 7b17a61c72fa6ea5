-- What a transmit step writes back.
use Rattle.std.proofs.Common.{◌≡◌, ◌<◌, ◌⊎◌, ◌+◌, ◌*◌, ◌/◌, ◌%◌, ◌^◌, ℕ, true, false, List, [], ◌∷◌, ◌++◌, slice_index, Option, Some, None, Ok, inl, inr, refl, ap, sym, ◌∙◌, arith}
use Rattle.std.specs.Int.{w32, to_le_bytes}
use Rattle.nic_device.specs.DmaRing.Ring.{slots_of, next_of}
use Rattle.nic_device.specs.TxRing.Fetch.{Outcome as Fetching}
use Rattle.nic_device.specs.TxRing.Report.{head_address, done_descriptor}
use Rattle.nic_device.proofs.TxRing.Reported.{driver_reads, writes_inside_report}
use Rattle.nic_device.proofs.TxRing.Reports.{report_law}
use Rattle.nic_device.specs.Transmit.{fetched_reply}
use Rattle.datasheet_laws.specs.FramePrelude.{Fetched, IsSound, Outcome, State, Tdh, Tdlen, Tdwbah, Tdwbal, has_bit}
use Rattle.datasheet_laws.specs.FramePrelude.{of_halves}
use Rattle.datasheet_laws.specs.FramePrelude.{place, read_at, step_of, word_of}
use Rattle.datasheet_laws.proofs.FramePrelude.{cond-false, cond-true, fetched_by, takes_slot, transmitted_cases, word_small}
use Rattle.datasheet_laws.specs.Bits.{bit, field}
use Rattle.datasheet_laws.specs.Reports.{next_head, head_bytes, with_dd, WritesBack, ReportedAfter, ReportsAreWrittenBack}
use Rattle.datasheet_laws.specs.TransmitFaults.{IsReportedAt, type_in, report_bit, descriptor_address}
use Rattle.datasheet_laws.specs.Transmitting.{head_descriptor}
use Rattle.datasheet_laws.proofs.FrameBits.{has-one, has-zero}
use Rattle.datasheet_laws.proofs.GoingOut.{ring, head-is}
use Rattle.datasheet_laws.proofs.Slots.{low-half}
use Rattle.datasheet_laws.proofs.TransmitBytes as bytes
use Rattle.datasheet_laws.proofs.TransmitFaults.{small, report-is, kind-is, c, tx, address-is}

-- The new head.
head-written : (head : ℕ) → head < 2 ^ 16 → to_le_bytes w32 head ≡ head_bytes head
head-written head fits =
    let e0 : head % 256 ≡ field 7 0 head = omega arith in
    let e1 : head / 2 ^ 8 % 256 ≡ field 15 8 head = omega arith in
    let e2 : head / 2 ^ 16 % 256 ≡ 0 = omega arith in
    let e3 : head / 2 ^ 24 % 256 ≡ 0 = omega arith in
    λ k. e0 k ∷ e1 k ∷ e2 k ∷ e3 k ∷ []

module _ (s : State) (h : IsSound s) (queue : ℕ) where
  next-is : next_of (slots_of (ring s queue)) (ring s queue).head ≡ next_head s.registers queue
  next-is =
      let low = sym (low-half (word_of s.registers Tdh queue)) in
      let long : word_of s.registers Tdlen queue % 2 ^ 20 ≡ field 19 0 (word_of s.registers Tdlen queue) =
      omega arith in
      λ k. next_of (long k / 16) (low k)

  -- The descriptor with DD.
  done-is : done_descriptor (head_descriptor s queue) ≡ with_dd (head_descriptor s queue)
  unfolding of_halves read_at
  done-is =
      λ k. bytes.kept-bytes (head_descriptor s queue) (small s h queue) k
      ++ bytes.done-bytes (head_descriptor s queue) (small s h queue) k

  -- Where a report is written.

  writeback-head : (address : ℕ) → IsReportedAt s.registers queue address 4 → (tx s h queue).writeback ≡ Some address
  writeback-head address (inl head) =
      let low = word_of s.registers Tdwbal queue in
      let fits = word_small s.registers h.registers (place Tdwbal queue) in
      let upper : low / 4 ≡ field 31 2 low = omega arith in
      let at : word_of s.registers Tdwbah queue * 2 ^ 32 + 4 * (low / 4) ≡ address = omega (arith, head.1) in
      cond-true (has_bit 0 low) (Some (word_of s.registers Tdwbah queue * 2 ^ 32 + 4 * (low / 4))) None
      (has-one 0 low head.0)
      ∙ ap (λ (n : ℕ). Some n) at
  writeback-head address (inr other) = absurd (let size = other.2 in omega arith)

  writeback-none : bit 0 (word_of s.registers Tdwbal queue) ≡ 0 → (tx s h queue).writeback ≡ None
  writeback-none off = cond-false (has_bit 0 (word_of s.registers Tdwbal queue)) _ None (has-zero 0 _ off)

  own-address : (address : ℕ) → bit 0 (word_of s.registers Tdwbal queue) ≡ 0
      → IsReportedAt s.registers queue address 16 → address ≡ descriptor_address s.registers queue
  own-address address off (inl other) = absurd (let size = other.2 in omega arith)
  own-address address off (inr own) = own.1

  module _ (f : Fetched) (is : (fetched_by s queue).answer ≡ Ok f) where
    report-one : report_bit s queue ≡ 1 → (c s h queue).report ≡ true
    report-one one = report-is s h queue ∙ has-one 3 (slice_index (head_descriptor s queue) 11) one

    report-zero : report_bit s queue ≡ 0 → (c s h queue).report ≡ false
    report-zero zero = report-is s h queue ∙ has-zero 3 (slice_index (head_descriptor s queue) 11) zero

    asked : type_in s queue ≡ 3 → report_bit s queue ≡ 1 → f.rs ≡ true
    asked three one =
        let kind = kind-is s h queue in
        elim (takes_slot _ _ _ _ f is).done as (λ _. f.rs ≡ true) [
          | inl context ↦ absurd (let two = context.0.type in omega arith)
          | inr full ↦
              let rs : (c s h queue).report ≡ f.rs = cc (ap (λ (o : Fetching). o.answer) full.2) in
              sym rs ∙ report-one one
        ]

    unasked : (type_in s queue ≡ 2) ⊎ (report_bit s queue ≡ 0) → f.rs ≡ false
    unasked none =
        let kind = kind-is s h queue in
        elim (takes_slot _ _ _ _ f is).done as (λ _. f.rs ≡ false) [
          | inl context ↦ cc (ap (λ (o : Fetching). o.answer) context.1)
          | inr full ↦
              let rs : (c s h queue).report ≡ f.rs = cc (ap (λ (o : Fetching). o.answer) full.2) in
              elim none as (λ _. f.rs ≡ false) [
                | inl two ↦ absurd (let three = full.0.type in omega arith)
                | inr zero ↦ sym rs ∙ report-zero zero
              ]
        ]

    writes_back : (new : State) → new.memory ≡ (fetched_by s queue).memory → WritesBack s queue f.back new
    writes_back new left =
        let taken = takes_slot _ _ _ _ f is in
        record {
          none = λ none.
              let back = (report_law _ _ _ _ f is).none (unasked none) in
              (back, left ∙ (writes_inside_report _ _ _ _ f is).none back);
          head = λ address three one on at.
              let reported = (driver_reads _ _ _ _ f h.blocks.whole is (asked three one)).head address
              (writeback-head address at) in
              let fits : f.head < 2 ^ 16 = omega (arith, taken.inside) in (
                reported.0,
                ap (λ m. read_at m address 4) left ∙ reported.1 ∙ head-written f.head fits
                    ∙ ap head_bytes (taken.head ∙ next-is),
              );
          descriptor = λ address three one off at.
              let reported = (driver_reads _ _ _ _ f h.blocks.whole is (asked three one)).descriptor
              (writeback-none off) in
              let here : head_address (ring s queue) ≡ address =
              address-is s h queue ∙ sym (own-address address off at) in (
                reported.0 ∙ ap (λ (n : ℕ). Some n) here,
                ap (λ m. read_at m address 16) left
                    ∙ ap (λ n. read_at (fetched_by s queue).memory n 16) (sym here) ∙ reported.1
                    ∙ ap done_descriptor (sym (head-is s queue)) ∙ done-is,
              );
        }

own-slot : (s : State) → IsSound s → (queue : ℕ) (f : Fetched) → (fetched_by s queue).answer ≡ Ok f
    → f.slot ≡ field 15 0 (word_of s.registers Tdh queue)
own-slot s h queue f is = (takes_slot _ _ _ _ f is).slot ∙ sym (low-half (word_of s.registers Tdh queue))

abbrev After : State → ℕ → Outcome → Type 0
After s queue o = ReportedAfter queue o.reply s o.state

reply_so : (s : State) (queue : ℕ) (f : Fetched) (o : Option (List ℕ)) (new : State)
    → f.slot ≡ field 15 0 (word_of s.registers Tdh queue) → WritesBack s queue f.back new
    → ReportedAfter queue (fetched_reply queue f o) s new
reply_so s queue f (Some frame) new slot written = (refl, written)
reply_so s queue f None new slot written = (refl, slot, written)

pub reports_so : ReportsAreWrittenBack
unfolding step_of
reports_so s h queue = transmitted_cases (After s queue) s queue (record {
  none = tt;
  idle = tt;
  fault = λ fault. refl;
  fetched = λ f is. reply_so s queue f f.frame _ (own-slot s h queue f is) (writes_back s h queue f is _ refl);
})
