-- CTRL_EXT stores what is written, as a plain read/write register does. With bit 14 set, a write also reports the end
-- of a reset to functions, in their mailboxes.
use Rattle.std.specs.Prelude.{ℕ, ◌≡◌, ◌≢◌, ◌<◌, IsFalse}
use Rattle.nic_device.specs.declared.event.Event.TheVariants as event
use Rattle.nic_device.specs.declared.event.Port.TheVariants.{Pf}
use Rattle.datasheet_laws.specs.Prelude.{CtrlExt, IsSound, Names, Pfmailbox, Place, Pvfmailbox, State, Word, after}
use Rattle.datasheet_laws.specs.Prelude.{after_write, has_bit, new_state, place, reply_to_read}
use Rattle.datasheet_laws.specs.Plain.{ChangesOneRegister}
use Rattle.datasheet_laws.specs.Shown.{reads_one}

abbrev pub extended_address : ℕ
extended_address = 0x00018

-- CTRL_EXT reads 0 in a new device.
abbrev pub ExtendedBeginsAtZero : Type 0
ExtendedBeginsAtZero = (vfs fifo : ℕ) → reply_to_read (new_state vfs fifo) extended_address ≡ Word 0

pub record KeepsExtended (s : State) (word : ℕ) : Type 0 where
  -- All written bits are read back, and a read changes nothing.
  pub kept :
      (bit : ℕ) → bit < 32
      → reads_one (after_write s extended_address word) extended_address bit ≡ has_bit bit word
  pub read : after s (event.Read Pf extended_address) ≡ s
  -- Every register except CTRL_EXT and the mailbox registers reads as before. With bit 14 clear, the mailbox registers
  -- also read as before, and nothing in the device has changed except words of registers.
  pub others :
      (address : ℕ) (q : Place) → Names address q → q ≢ place CtrlExt 0 → q.row ≢ Pvfmailbox → q.row ≢ Pfmailbox
      → reply_to_read (after_write s extended_address word) address ≡ reply_to_read s address
  pub alone : IsFalse (has_bit 14 word) → ChangesOneRegister (place CtrlExt 0) s (after_write s extended_address word)

abbrev pub ExtendedKeepsWhatIsWritten : Type 0
ExtendedKeepsWhatIsWritten = (s : State) → IsSound s → (word : ℕ) → KeepsExtended s word
