-- Laws of legal histories that the laws of a driver's two sides rely on.
use Rattle.std.specs.Prelude.{◌++◌, ◌≡◌, IsTrue, List, ℕ}
use Rattle.ring_laws.specs.Prelude.{AreEvents, Entry, IsSound, Off, State, Watched, frame_limit, has_begun, leads_to}
use Rattle.ring_laws.specs.Prelude.{lent_by, mode_in, mode_through, new_state}
use Rattle.device_lock.specs.{Alone.LeavesAlone, Reported.first_settings, Reported.limit_of, Reported.settings_through}
use Rattle.ring_laws.specs.Alone.{AllAlone, IsPlain, LeavesAloneFrom}

-- In a history that begins with a new device, the mode computed from the entries is the device's mode.
abbrev pub ModeIsReported : Type 0
ModeIsReported =
    (vfs fifo : ℕ) (h : List Entry) → IsSound (new_state vfs fifo) → AreEvents h →
    mode_through vfs Off h ≡ mode_in (leads_to (new_state vfs fifo) h).registers

-- The mode and the frame limit computed from the entries are both the device's.
abbrev pub SettingsAreReported : Type 0
SettingsAreReported =
    (vfs fifo : ℕ) (h : List Entry) → IsSound (new_state vfs fifo) → AreEvents h →
    let reported = settings_through vfs first_settings h in
    let s = leads_to (new_state vfs fifo) h in
    (reported.mode ≡ mode_in s.registers) × (limit_of reported.frames ≡ frame_limit s.registers)

-- Suppose that a device's mode can be computed from later entries alone (`IsPlain`). If a history that begins with that
-- device leaves a queue alone according to the computed mode, it leaves the queue alone.
abbrev pub PlainIsLeftAlone : Type 0
PlainIsLeftAlone =
    (w : Watched) (s : State) (h : List Entry) → IsSound s → IsPlain w s → AreEvents h → LeavesAlone w h →
    LeavesAloneFrom w s h

-- The mode of a new device can be computed from later entries alone.
abbrev pub NewIsPlain : Type 0
NewIsPlain = (w : Watched) (fifo : ℕ) → IsPlain w (new_state w.vfs fifo)

-- If a history leaves a queue alone, each entry does, starting at any point after the pass's first entry.
abbrev pub AloneByEntries : Type 0
AloneByEntries =
    (w : Watched) (s : State) (before rest : List Entry) → LeavesAloneFrom w s (before ++ rest) →
    IsTrue (has_begun w.pass before) →
    AllAlone w (lent_by w.pass (before ++ rest)) (leads_to s before) rest

-- Each initial part of a history that leaves a queue alone leaves the queue alone.
abbrev pub BeginningIsAlone : Type 0
BeginningIsAlone =
    (w : Watched) (s : State) (beginning rest : List Entry) → LeavesAloneFrom w s (beginning ++ rest) →
    LeavesAloneFrom w s beginning

-- The remaining part leaves the queue alone too, starting in the state that the initial part leads to.
abbrev pub RestIsAlone : Type 0
RestIsAlone =
    (w : Watched) (s : State) (before rest : List Entry) → LeavesAloneFrom w s (before ++ rest) →
    LeavesAloneFrom w (leads_to s before) rest

-- A sound device stays sound through events that a driver can make.
abbrev pub HistoriesKeepSound : Type 0
HistoriesKeepSound = (s : State) (h : List Entry) → IsSound s → AreEvents h → IsSound (leads_to s h)
