-- Where a transmit step writes its report.
use Rattle.std.specs.Prelude.{◌/◌, ◌≡◌, Some, ℕ}
use Rattle.ring_laws.specs.Prelude.{IsSound, LiesIn, State, reply_to, reported_address, transmit_queue_of}
use Rattle.device_lock.specs.NicDevice.TxRing.Report.{report_length}
use Rattle.device_lock.specs.NicDevice.declared.event.Event.TheVariants as event

-- The bytes that are written back are inside the block in which they begin.
abbrev pub ReportsLieInBlocks : Type 0
ReportsLieInBlocks =
    (s : State) → IsSound s → (queue back : ℕ) → reported_address (reply_to s (event.TxStep queue)) ≡ Some back →
    LiesIn (back / 2048) back (report_length (transmit_queue_of s.registers queue).writeback)
