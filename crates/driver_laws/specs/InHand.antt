-- Histories of a device in hand, or of one that passes share, over which the laws of a driver's life are stated.
use Rattle.std.specs.Prelude.{ℕ, ◌≡◌, ◌<◌, ◌≤◌, List, [], ◌++◌}
use Rattle.driver_laws.specs.StartPrelude.{IsSound, State, AreEvents, IsLegal, calls_of, leads_to, Watched, Call, Entry}
use Rattle.driver_laws.specs.StartPrelude.{LeavesAloneFrom, entries_in, marked_entries, new_state}
use Rattle.driver_laws.specs.Prelude.{IsAlong}
use Rattle.driver_laws.specs.Closed.{UpTo}
use Rattle.pmd_driver.specs.DeviceLock.Alone.{LeavesAlone}
use Rattle.pmd_driver.specs.DeviceLock.Closing.{Closes}
use Rattle.pmd_driver.specs.DeviceLock.Pass.{PassValue}
use Rattle.pmd_driver.specs.PmdAccess.Begun.{From, began_handled, began_in_hand}
use Rattle.pmd_driver.specs.PmdAccess.Made.{InHand}
use Rattle.pmd_driver.specs.PmdAccess.Scheduled.{Handled, made_of}
use Rattle.pmd_driver.specs.PmdAccess.Stepped.{AtLock}

-- What is known to have happened to a device before it came into hand, possibly nothing. This is a legal history
-- without entries of pass 0. It begins in any state that a device can be in, new or used, with or without an installed
-- EEPROM image.
pub record WasMade (s : State) (before : List Entry) : Type 0 where
  pub sound : IsSound s
  pub events : AreEvents before
  pub legal : IsLegal s before
  pub others : calls_of 0 before ≡ []

-- The driver of a device in hand makes the calls of pass 0.
abbrev pub in_hand : State → ℕ → Watched
in_hand s queue = record { vfs = s.vfs; pass = 0; queue = queue }

-- The history that begins in state `s` is legal and leaves the queue alone (`IsAlong`), pass 0 made these calls in it,
-- and it leads to this device state.
pub record IsHistoryOf (s : State) (queue : ℕ) (h : List Entry) (calls : List Call) (device : State) : Type 0 where
  pub along : IsAlong (in_hand s queue) s h
  pub made : calls_of 0 h ≡ calls
  pub leads : leads_to s h ≡ device

-- The earlier entries, followed by the calls through a `Direct`, form a history that leaves a queue alone, if
-- `left_alone` is true of these entries. Whatever the state, this test needs only the entries and their replies. All
-- entries after the first one of pass 0 belong to that pass. So the only requirement concerns what device steps wrote
-- for other queues.
abbrev pub DirectIsHistory : Type 0
DirectIsHistory =
    (s : State) (queue : ℕ) (before : List Entry) (d : InHand) → queue < 128 → WasMade s before →
    began_in_hand d (From (leads_to s before)) → LeavesAlone (in_hand s queue) (before ++ entries_in d.calls) →
    IsHistoryOf s queue (before ++ entries_in d.calls) d.calls d.device

-- The earlier entries, followed by the own and foreign calls through an `Interleaved`, form a history too, if they
-- leave the queue alone starting from the state `s`.
abbrev pub InterleavedIsHistory : Type 0
InterleavedIsHistory =
    (s : State) (queue : ℕ) (before : List Entry) (i : Handled) → queue < 128 → WasMade s before →
    began_handled i (From (leads_to s before)) →
    LeavesAloneFrom (in_hand s queue) s (before ++ marked_entries i.calls i.own) →
    IsHistoryOf s queue (before ++ marked_entries i.calls i.own) (made_of i) i.device

-- A new device with this number of virtual functions, and room for this many frames, was shared. These passes closed
-- its history, as the clauses of `close` and of `history` say.
pub record IsClosed (vfs fifo : ℕ) (h : List Entry) (ps : List PassValue) : Type 0 where
  -- As `Shared::new` requires.
  pub device : (vfs ≤ 63) × (0 < fifo) × (fifo ≤ 4096)
  pub bench : ℕ
  pub count : ℕ
  pub closes : Closes bench count h ps
  pub legal : IsLegal (new_state vfs fifo) h
  pub events : AreEvents h

-- The driver of a shared device makes the calls of its pass.
abbrev pub at_lock : (vfs tag queue : ℕ) → Watched
at_lock vfs tag queue = record { vfs = vfs; pass = tag; queue = queue }

-- The history that begins with the new device is legal and leaves the queue alone (`IsAlong`), and the pass made these
-- calls in it.
pub record IsHistoryAtLock (vfs fifo tag queue : ℕ) (h : List Entry) (calls : List Call) : Type 0 where
  pub along : IsAlong (at_lock vfs tag queue) (new_state vfs fifo) h
  pub made : calls_of tag h ≡ calls

-- The calls through a `ThroughLock`, at any time, form a history up to each point where its pass had made exactly these
-- calls. The premise: `left_alone` is true for the pass's tag and the queue. If the pass is among those that closed the
-- history, with these calls and perhaps more after them, such a point comes right after the last of these calls
-- (`CallsStand`).
abbrev pub ClosedIsHistory : Type 0
ClosedIsHistory =
    (vfs fifo queue : ℕ) (h : List Entry) (ps : List PassValue) (t : AtLock) → queue < 128 → IsClosed vfs fifo h ps →
    LeavesAlone (at_lock vfs t.pass.tag queue) h → (u : UpTo t.pass.tag h t.pass.calls) →
    IsHistoryAtLock vfs fifo t.pass.tag queue u.done t.pass.calls
