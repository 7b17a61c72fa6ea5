-- What a transmit step writes back, byte by byte.
use Rattle.std.specs.Prelude.{ℕ, ◌≡◌, ◌⊎◌, ◌+◌, ◌*◌, ◌/◌, ◌==◌, ⊤, List, [], ◌∷◌, ◌++◌, take, drop, slice_index, Option, Some, None, if◌then◌else◌}
use Rattle.nic_device.specs.declared.event.Event.TheVariants as event
use Rattle.datasheet_laws.specs.FramePrelude.{Advanced, Block, Fault, IsSound, Registers, Reply, Sent, State, Tdh, Tdlen}
use Rattle.datasheet_laws.specs.FramePrelude.{Tdwbal}
use Rattle.datasheet_laws.specs.FramePrelude.{after, read_at, reply_to, word_of}
use Rattle.datasheet_laws.specs.Bits.{bit, field}
use Rattle.datasheet_laws.specs.TransmitFaults.{IsReportedAt, type_in, report_bit}
use Rattle.datasheet_laws.specs.Transmitting.{head_descriptor}

-- The head after a step: the slot after the one in TDH bits 15 to 0, or slot 0 after the last slot of the ring in TDLEN
-- bits 19 to 0.
abbrev pub next_head : Registers → ℕ → ℕ
next_head r queue =
    if field 15 0 (word_of r Tdh queue) + 1 == field 19 0 (word_of r Tdlen queue) / 16
    then 0
    else field 15 0 (word_of r Tdh queue) + 1

-- The new head as 4 bytes, the lowest first.
abbrev pub head_bytes : ℕ → List ℕ
head_bytes head = field 7 0 head ∷ field 15 8 head ∷ 0 ∷ 0 ∷ []

-- A descriptor with DD, bit 0 of byte 12, set, and all other bits unchanged.
abbrev pub with_dd : List ℕ → List ℕ
with_dd descriptor = take 12 descriptor ++ (2 * (slice_index descriptor 12 / 2) + 1) ∷ drop 13 descriptor

-- If the type is 2 or RS is 0, nothing is written back. Otherwise the step writes back the new head if TDWBAL bit 0 is
-- 1, and the descriptor with DD if it is 0.
pub record WritesBack (s : State) (queue : ℕ) (back : Option ℕ) (new : State) : Type 0 where
  pub none : (type_in s queue ≡ 2) ⊎ (report_bit s queue ≡ 0) → (back ≡ None) × (new.memory ≡ s.memory)
  pub head :
      (address : ℕ) → type_in s queue ≡ 3 → report_bit s queue ≡ 1 → bit 0 (word_of s.registers Tdwbal queue) ≡ 1
      → IsReportedAt s.registers queue address 4
      → (back ≡ Some address) × (read_at new.memory address 4 ≡ head_bytes (next_head s.registers queue))
  pub descriptor :
      (address : ℕ) → type_in s queue ≡ 3 → report_bit s queue ≡ 1 → bit 0 (word_of s.registers Tdwbal queue) ≡ 0
      → IsReportedAt s.registers queue address 16
      → (back ≡ Some address) × (read_at new.memory address 16 ≡ with_dd (head_descriptor s queue))

-- The reply names the step's own queue, and the slot in TDH if no frame is sent.
abbrev pub ReportedAfter : ℕ → Reply Block → State → State → Type 0
ReportedAfter own (Advanced queue slot back) s new =
    (queue ≡ own) × (slot ≡ field 15 0 (word_of s.registers Tdh own)) × WritesBack s own back new
ReportedAfter own (Sent queue len back) s new = (queue ≡ own) × WritesBack s own back new
ReportedAfter own (Fault queue fault) s new = queue ≡ own
ReportedAfter own other s new = ⊤

abbrev pub ReportsAreWrittenBack : Type 0
ReportsAreWrittenBack =
    (s : State) → IsSound s → (queue : ℕ) →
    ReportedAfter queue (reply_to s (event.TxStep queue)) s (after s (event.TxStep queue))
