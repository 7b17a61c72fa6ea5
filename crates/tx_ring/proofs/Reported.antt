-- Lemmas about the memory after a report is written back.
use Rattle.std.proofs.Common.{◌≡◌, ℕ, Bool, true, false, Option, Some, None, List, length, refl, sym, ◌∙◌, Ok}
use Rattle.std.specs.Prelude.{IsTrue}
use Rattle.std.specs.Int.{w32, to_le_bytes}
use Rattle.dma_arena.specs.Memory.{Memory, is_lent, read_at, IsWhole, SameLent}
use Rattle.dma_arena.proofs.Bus.{SameLent-write_at, IsWhole-write_at, byte_at-write_at_other, read_at-write_at_same, read_at-write_at_apart}
use Rattle.dma_arena.proofs.Blocks.{get-write_at_out}
use Rattle.dma_ring.specs.declared.ring.Ring.{Ring}
use Rattle.dma_ring.specs.Descriptor.{of_halves}
use Rattle.tx_ring.specs.declared.tx.Tx.{Tx}
use Rattle.tx_ring.specs.declared.fetched.Fetched.{Fetched}
use Rattle.tx_ring.specs.Report.{head_address, new_head, report_address, done_descriptor, report_bytes, report_length, back_of, reported}
use Rattle.tx_ring.specs.Fetch.{Outcome, descriptor_of}
use Rattle.tx_ring.specs.Laws.{command_at, ShowsReport, DriverReads, ChangesOnlyReport, WritesInsideReport, FetchKeepsBlocks}
use Rattle.tx_ring.proofs.Fetches.{fetch_cases}

length-report_bytes : (r : Ring) (writeback : Option ℕ) (descriptor : List ℕ)
    → length (report_bytes r writeback descriptor) ≡ report_length writeback
unfolding of_halves
length-report_bytes r (Some a) descriptor = refl
length-report_bytes r None descriptor = refl

-- What a driver reads from a report.

read_at-reported : (m : Memory) (r : Ring) (tx : Tx) (descriptor : List ℕ) → IsWhole m
    → is_lent m (report_address r tx) (report_length tx.writeback) ≡ true
    → read_at (reported m r tx true descriptor) (report_address r tx)
    (report_length tx.writeback) ≡ report_bytes r tx.writeback descriptor
read_at-reported m r tx descriptor whole lent =
    let size = length-report_bytes r tx.writeback descriptor in
    rw size at
    (read_at-write_at_same m (report_address r tx) (report_bytes r tx.writeback descriptor) whole (rw size lent))

read_at-head : (m : Memory) (r : Ring) (tx : Tx) (descriptor : List ℕ) (a : ℕ) → IsWhole m
    → is_lent m (report_address r tx) (report_length tx.writeback) ≡ true → tx.writeback ≡ Some a
    → read_at (reported m r tx true descriptor) a 4 ≡ to_le_bytes w32 (new_head r)
read_at-head m r tx descriptor a whole lent is = rw is (rw is at (read_at-reported m r tx descriptor whole lent))

read_at-descriptor : (m : Memory) (r : Ring) (tx : Tx) (descriptor : List ℕ) → IsWhole m
    → is_lent m (report_address r tx) (report_length tx.writeback) ≡ true → tx.writeback ≡ None
    → read_at (reported m r tx true descriptor) (head_address r) 16 ≡ done_descriptor descriptor
read_at-descriptor m r tx descriptor whole lent is = rw is (rw is at (read_at-reported m r tx descriptor whole lent))

abbrev Shows : Memory → Ring → Tx → Outcome → Type 0
Shows m r tx o = (f : Fetched) → o.answer ≡ Ok f → IsTrue f.rs → ShowsReport m o.memory r tx f

pub driver_reads : DriverReads
driver_reads m staged r tx f whole =
    fetch_cases (Shows m r tx) m staged r tx (λ fault f is asked. absurd (cc)) (λ context f is asked. absurd (cc))
    (λ full sent f is asked.
    let report : (command_at m r).report ≡ true = cc in
    let lent : is_lent m (report_address r tx) (report_length tx.writeback) ≡ true = rw report at sent.report in
    let made : back_of r tx (command_at m r).report ≡ f.back = cc in
    let back : Some (report_address r tx) ≡ f.back = rw report at made in
    let moved : new_head r ≡ f.head = cc in
    rw (report, ← moved) (record {
      head = λ a at. (sym back ∙ rw at refl, read_at-head m r tx (descriptor_of m r) a whole lent at);
      descriptor = λ none. (sym back ∙ rw none refl, read_at-descriptor m r tx (descriptor_of m r) whole lent none);
    })) f

-- What is unchanged.

reported_only : (report : Bool) (m : Memory) (r : Ring) (tx : Tx) (descriptor : List ℕ) (f : Fetched)
    → back_of r tx report ≡ f.back
    → ChangesOnlyReport m (reported m r tx report descriptor) tx f
reported_only false m r tx descriptor f back = record {
  none = λ none. refl;
  bytes = λ a at some out. refl;
  reads = λ a n at some apart. refl;
  blocks = λ number at some avoids. refl;
}
reported_only true m r tx descriptor f back =
    let bytes : List ℕ = report_bytes r tx.writeback descriptor in
    let size = length-report_bytes r tx.writeback descriptor in
    record {
      none = λ none. absurd (cc);
      bytes = λ a at some out. let e : report_address r tx ≡ at =
          cc in byte_at-write_at_other m (report_address r tx) bytes a (rw (size, e) out);
      reads = λ a n at some apart. let e : report_address r tx ≡ at =
          cc in read_at-write_at_apart m (report_address r tx) bytes a n (rw (size, e) apart);
      blocks = λ number at some avoids. let e : report_address r tx ≡ at =
          cc in get-write_at_out m (report_address r tx) bytes number (rw (size, e) avoids);
    }

abbrev Changes : Memory → Tx → Outcome → Type 0
Changes m tx o = (f : Fetched) → o.answer ≡ Ok f → ChangesOnlyReport m o.memory tx f

pub writes_inside_report : WritesInsideReport
writes_inside_report m staged r tx =
    fetch_cases (Changes m tx) m staged r tx (λ fault f is. absurd (cc))
    (λ context f is. reported_only false m r tx (descriptor_of m r) f (cc))
    (λ full sent f is. reported_only (command_at m r).report m r tx (descriptor_of m r) f (cc))

abbrev KeepsBlocks : Memory → Outcome → Type 0
KeepsBlocks m o = SameLent o.memory m × (IsWhole m → IsWhole o.memory)

reported_keeps : (report : Bool) (m : Memory) (r : Ring) (tx : Tx) (descriptor : List ℕ)
    → SameLent (reported m r tx report descriptor) m × (IsWhole m → IsWhole (reported m r tx report descriptor))
reported_keeps false m r tx descriptor = ((λ number. refl), λ whole. whole)
reported_keeps true m r tx descriptor =
    let bytes : List ℕ = report_bytes r tx.writeback descriptor in
    (SameLent-write_at m (report_address r tx) bytes, IsWhole-write_at m (report_address r tx) bytes)

pub fetch_keeps_blocks : FetchKeepsBlocks
fetch_keeps_blocks m staged r tx =
    fetch_cases (KeepsBlocks m) m staged r tx (λ fault. ((λ number. refl), λ whole. whole))
    (λ context. ((λ number. refl), λ whole. whole))
    (λ full sent. reported_keeps (command_at m r).report m r tx (descriptor_of m r))
