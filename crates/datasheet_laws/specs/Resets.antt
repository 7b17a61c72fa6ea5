-- A reset is reported to a function once: by RSTI, bit 6 of PVFMAILBOX[v], until the physical function reports that the
-- reset is done, and then by RSTD, bit 7, in one read.
use Rattle.std.specs.Prelude.{ℕ, ◌≡◌, ◌<◌, ◌≤◌, ◌+◌, Bool, false, ◌&&◌, ◌||◌, List, [], ◌∷◌, ⊤, if◌then◌else◌, IsTrue, IsFalse}
use Rattle.nic_device.specs.RegisterLaws.Footprint.{is_place}
use Rattle.nic_device.specs.declared.event.Event.TheVariants as event
use Rattle.datasheet_laws.specs.Prelude.{Block, Ctrl, CtrlExt, Event, IsEvent, IsSound, Named, Nothing, Place, Port}
use Rattle.datasheet_laws.specs.Prelude.{Pvfmailbox, Register, State, after, has_bit, named, place, reply_to}
use Rattle.datasheet_laws.specs.Holding.{IsSparing}
use Rattle.datasheet_laws.specs.SharedMailbox.{function_mail}
use Rattle.datasheet_laws.specs.Shown.{word_in, reads_one}

-- A number names PVFMAILBOX[v].
abbrev pub is_mailbox : ℕ → Named → Bool
is_mailbox v (Nothing seen) = false
is_mailbox v (Register p view) = is_place (place Pvfmailbox v) p

-- An event is a read of PVFMAILBOX[v], through either port, that returns RSTD.
abbrev pub tells_end : State → ℕ → Event Block → Bool
tells_end s v (event.Read port number) =
    is_mailbox v (named s port number) && has_bit 7 (word_in (reply_to s (event.Read port number)))
tells_end s v other = false

-- How many of these events are reads that return RSTD.
abbrev pub times_reported : State → ℕ → List (Event Block) → ℕ
times_reported s v [] = 0
times_reported s v (e ∷ es) = (if tells_end s v e then 1 else 0) + times_reported (after s e) v es

-- A write requests no reset of the device.
abbrev pub SparesDevice : Place → (word : ℕ) → Type 0
SparesDevice p word = p ≡ place Ctrl 0 → IsFalse (has_bit 3 word || has_bit 26 word)

-- These events can occur, and none requests a reset of the device.
abbrev pub AreWithoutReset : State → List (Event Block) → Type 0
AreWithoutReset s [] = ⊤
AreWithoutReset s (e ∷ es) = IsEvent e × IsSparing SparesDevice s e × AreWithoutReset (after s e) es

-- Starting with any device, and so from one reset to the next, at most one read reports that a reset is done.
abbrev pub EndIsReportedOnce : Type 0
EndIsReportedOnce =
    (s : State) → IsSound s → (v : ℕ) → v < 64 → (es : List (Event Block)) → AreWithoutReset s es
    → times_reported s v es ≤ 1

-- A write to CTRL_EXT with bit 14 set reports the end of a reset to each function to which the beginning of a reset was
-- reported.
pub record IsReportedOfTheEnd (s new : State) (v : ℕ) : Type 0 where
  pub begun : IsFalse (reads_one new (function_mail v) 6)
  pub done : reads_one new (function_mail v) 7
      ≡ (reads_one s (function_mail v) 6 || reads_one s (function_mail v) 7)

abbrev pub EndIsReported : Type 0
EndIsReported =
    (s : State) → IsSound s → (v : ℕ) → v < 64 → (port : Port) (number view word : ℕ) →
    named s port number ≡ Register (place CtrlExt 0) view → IsTrue (has_bit 14 word)
    → IsReportedOfTheEnd s (after s (event.Write port number word)) v
