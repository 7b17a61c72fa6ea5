-- The data under the lock, and the facts that hold whenever the lock is free.
use Rattle.std.specs.Prelude.{◌≡◌, ℕ, ◌<◌, ◌≤◌, ◌==◌, List, [], ◌∷◌, ◌++◌, length, count_by, slice_index}
use Rattle.nic_device.specs.DmaArena.Block.{Block}
use Rattle.nic_device.specs.State.{State, new_state}
use Rattle.nic_device.specs.Step.{step_of}
use Rattle.nic_device.specs.declared.event.Event.{Event}
use Rattle.device_lock.specs.declared.entry.Entry.{Entry}
use Rattle.device_lock.specs.History.{leads_to, IsLegal, AreEvents, AllBelow, entry_of}

-- A device with the history of its calls, and the maximum number of entries in the history.
pub record Held : Type 0 where
  pub device : State
  pub history : List Entry
  pub limit : ℕ

-- How many entries of the history have this tag.
abbrev pub entries_of : ℕ → List Entry → ℕ
entries_of tag h = count_by (λ (e : Entry). e.pass == tag) h

-- The history is legal from a new device and leads to the state of the device under the lock. The history's events are
-- ones that a driver can cause, and its tags are below 64. The history is no longer than the limit, which is at most
-- 1,000,000. For each tag below 64, the count is the number of entries with that tag.
pub record IsKept (vfs fifo : ℕ) (h : Held) (counts : List ℕ) : Type 0 where
  pub legal : IsLegal (new_state vfs fifo) h.history
  pub leads : leads_to (new_state vfs fifo) h.history ≡ h.device
  pub events : AreEvents h.history
  pub below : AllBelow 64 h.history
  pub within : length h.history ≤ h.limit
  pub small : h.limit ≤ 1000000
  pub counted : (tag : ℕ) → tag < 64 → slice_index counts tag ≡ entries_of tag h.history

-- The history is legal from a new device and leads to the state of the device under the lock.
pub record IsLed (vfs fifo : ℕ) (h : Held) : Type 0 where
  pub legal : IsLegal (new_state vfs fifo) h.history
  pub leads : leads_to (new_state vfs fifo) h.history ≡ h.device

-- The data under the lock before the first call.
abbrev pub opened : ℕ → ℕ → ℕ → Held
opened vfs fifo limit = record { device = new_state vfs fifo; history = []; limit = limit }

-- The data under the lock after one more call: the device is in the state after the event, and the event's entry is
-- appended to the history.
abbrev pub after_call : Held → ℕ → Event Block → Held
after_call h tag event = record h {
  device = (step_of h.device event).state;
  history = h.history ++ entry_of tag event (step_of h.device event).reply ∷ [];
}
