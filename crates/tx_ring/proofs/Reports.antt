-- Lemmas about where a slot is reported, and which bits of a done descriptor change.
use Rattle.std.proofs.Common.{◌≡◌, ℕ, Bool, true, false, ◌/◌, ◌%◌, Option, Some, None, refl, sym, subst, ◌∙◌, arith, Ok}
use Rattle.std.specs.Prelude.{unwrap_or}
use Rattle.dma_arena.specs.Memory.{LiesIn}
use Rattle.dma_ring.specs.declared.ring.Ring.{Ring}
use Rattle.dma_ring.specs.Descriptor.{first_half, second_half}
use Rattle.dma_ring.specs.Laws.{SetsDone}
use Rattle.dma_ring.specs.Transmit.{with_done}
use Rattle.dma_ring.proofs.Fields.{halves_come_back, done_is_set}
use Rattle.dma_ring.proofs.Places.{slots_are_in_blocks}
use Rattle.tx_ring.specs.declared.tx.Tx.{Tx}
use Rattle.tx_ring.specs.declared.fetched.Fetched.{Fetched}
use Rattle.tx_ring.specs.Report.{head_address, report_length, back_of}
use Rattle.tx_ring.specs.Fetch.{Outcome}
use Rattle.tx_ring.specs.Laws.{command_at, ReportsAt, ReportLaw, ReportsInOneBlock, DoneChangesDoneAlone}
use Rattle.tx_ring.proofs.Fetches.{fetch_cases}

-- A done descriptor.
pub done_changes_done_alone : DoneChangesDoneAlone
done_changes_done_alone descriptor first second =
    let done = done_is_set (second_half descriptor) in
    let halves = halves_come_back (first_half descriptor) (with_done (second_half descriptor)) in
    let read = halves.second (done.fits second) in
    (halves.first first, subst (SetsDone (second_half descriptor)) (sym read) done)

-- Where a slot is reported.

reported_at : (report : Bool) (r : Ring) (tx : Tx) (f : Fetched) → report ≡ f.rs → back_of r tx report ≡ f.back
    → ReportsAt r tx f
reported_at false r tx f rs back = record {
  none = λ unasked. sym back;
  head = λ a at asked. absurd (cc);
  descriptor = λ none asked. absurd (cc);
}
reported_at true r tx f rs back = record {
  none = λ unasked. absurd (cc);
  head = λ a at asked. sym back ∙ rw at refl;
  descriptor = λ none asked. sym back ∙ rw none refl;
}

abbrev Reports : Ring → Tx → Outcome → Type 0
Reports r tx o = (f : Fetched) → o.answer ≡ Ok f → ReportsAt r tx f

pub report_law : ReportLaw
report_law m staged r tx f =
    fetch_cases (Reports r tx) m staged r tx (λ fault f is. absurd (cc))
    (λ context f is. reported_at false r tx f (cc) (cc))
    (λ full sent f is. reported_at (command_at m r).report r tx f (cc) (cc)) f

inside : (r : Ring) (writeback : Option ℕ) → r.base % 16 ≡ 0 → ((a : ℕ) → writeback ≡ Some a → a % 4 ≡ 0)
    → LiesIn (unwrap_or writeback (head_address r) / 2048) (unwrap_or writeback (head_address r))
    (report_length writeback)
inside r (Some a) base four = let low = four a refl in (omega arith, omega arith)
inside r None base four = let low = slots_are_in_blocks r r.head base in (omega (arith, low), omega (arith, low))

-- The write-back address is where the slot is reported.
answered_at : (asked : Bool) (r : Ring) (tx : Tx) (f : Fetched) (at : ℕ) → f.rs ≡ asked → ReportsAt r tx f
    → f.back ≡ Some at
    → (writeback : Option ℕ) → tx.writeback ≡ writeback → unwrap_or writeback (head_address r) ≡ at
answered_at false r tx f at is reported back writeback w = absurd (cc (reported.none is))
answered_at true r tx f at is reported back (Some a) w = let e = reported.head a w is in cc
answered_at true r tx f at is reported back None w = let e = reported.descriptor w is in cc

pub reports_in_one_block : ReportsInOneBlock
reports_in_one_block m staged r tx f at aligned is back =
    let e : unwrap_or tx.writeback (head_address r) ≡ at =
    answered_at f.rs r tx f at refl (report_law m staged r tx f is) back tx.writeback refl in
    subst (λ (a : ℕ). LiesIn (a / 2048) a (report_length tx.writeback)) e
    (inside r tx.writeback aligned.base aligned.writeback)
