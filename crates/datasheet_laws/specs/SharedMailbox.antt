-- The mailboxes of virtual functions, as both sides read them.
use Rattle.std.specs.Prelude.{ℕ, ◌≡◌, ◌<◌, ◌+◌, ◌*◌, ◌&&◌, IsFalse}
use Rattle.datasheet_laws.specs.Prelude.{IsSound, State}
use Rattle.datasheet_laws.specs.Shown.{reads_one}

-- PVFMAILBOX[v], the function's own, and PFMAILBOX[v].
abbrev pub function_mail : ℕ → ℕ
function_mail v = 0x04C00 + 4 * v

abbrev pub physical_mail : ℕ → ℕ
physical_mail v = 0x04B00 + 4 * v

-- Both sides read the same holder of the mailbox: the function by bit 2, the physical function by bit 3, at most one of
-- them. The function reads that a reset began, by bit 6, or that the reset is done, by bit 7, but never both.
pub record IsMailbox (s : State) (v : ℕ) : Type 0 where
  pub function : reads_one s (physical_mail v) 2 ≡ reads_one s (function_mail v) 2
  pub physical : reads_one s (physical_mail v) 3 ≡ reads_one s (function_mail v) 3
  pub holder : IsFalse (reads_one s (function_mail v) 2 && reads_one s (function_mail v) 3)
  pub end : IsFalse (reads_one s (function_mail v) 6 && reads_one s (function_mail v) 7)

-- In every device, whatever resets, EEPROM words and accesses have happened since it was new, both sides read the same
-- holder of a mailbox.
abbrev pub MailboxesAreShared : Type 0
MailboxesAreShared = (s : State) → IsSound s → (v : ℕ) → v < 64 → IsMailbox s v
