-- What it means for a history to leave a queue alone, starting in some state of the device.
use Rattle.std.specs.Prelude.{[], ◌++◌, ◌∷◌, ◌≡◌, IsTrue, List, ⊤}
use Rattle.ring_laws.specs.Prelude.{Blocks, Entry, EntryLeavesAlone, Off, State, Watched, after, has_begun, leads_to}
use Rattle.ring_laws.specs.Prelude.{lent_by, mode_in}
use Rattle.device_lock.specs.NicDevice.EepromImage.Image.{blank}

-- A history that begins in this state leaves the queue of a pass alone. Each entry after the pass's first entry leaves
-- the queue alone, given how the device separates its queues at that entry. Each such entry also spares all blocks that
-- the pass lends in the history.
abbrev pub LeavesAloneFrom : Watched → State → List Entry → Type 0
LeavesAloneFrom w s h =
    (before : List Entry) (e : Entry) (after : List Entry) → h ≡ before ++ e ∷ after → IsTrue (has_begun w.pass before)
    → EntryLeavesAlone w (lent_by w.pass h) (mode_in (leads_to s before).registers) e

-- A device whose mode can be computed from later entries alone. No EEPROM image is installed, from which a reset would
-- write registers, and the queues aren't separated into pools. A new device has these properties.
pub record IsPlain (w : Watched) (s : State) : Type 0 where
  pub image : s.image ≡ blank
  pub mode : mode_in s.registers ≡ Off
  pub vfs : w.vfs ≡ s.vfs

-- Each entry of a history that begins in this state leaves the queue and these blocks alone.
abbrev pub AllAlone : Watched → Blocks → State → List Entry → Type 0
AllAlone w mine s [] = ⊤
AllAlone w mine s (e ∷ es) =
    EntryLeavesAlone w mine (mode_in s.registers) e × AllAlone w mine (after s e.event) es
