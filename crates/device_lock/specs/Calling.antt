-- What is known about the data that a call finds under the lock.
use Rattle.std.specs.Prelude.{◌≡◌, ℕ, List, [], ◌∷◌, ◌++◌, length, take}
use Rattle.nic_device.specs.DmaArena.Block.{Block}
use Rattle.nic_device.specs.Run.{state_after}
use Rattle.nic_device.specs.State.{new_state}
use Rattle.nic_device.specs.Step.{step_of}
use Rattle.nic_device.specs.declared.event.Event.{Event}
use Rattle.nic_device.specs.declared.event.Reply.{Reply}
use Rattle.device_lock.specs.declared.entry.Entry.{Entry}
use Rattle.device_lock.specs.History.{leads_to, IsLegal}
use Rattle.device_lock.specs.Kept.{Held}
use Rattle.device_lock.specs.Pass.{PassValue}
use Rattle.device_lock.specs.Resting.{after_calls}
use Rattle.device_lock.specs.Stepping.{calls_made, steps_of_queue, with_calls}

-- Some legal history of a new device leads to a state in which the device sends this reply to the event.
pub record IsAnswered (vfs fifo : ℕ) (event : Event Block) (reply : Reply Block) : Type 0 where
  pub history : List Entry
  pub legal : IsLegal (new_state vfs fifo) history
  pub answer : reply ≡ (step_of (leads_to (new_state vfs fifo) history) event).reply

-- Some legal history of a new device has exactly as many entries as some limit allows.
pub record IsFull (vfs fifo : ℕ) : Type 0 where
  pub held : Held
  pub legal : IsLegal (new_state vfs fifo) held.history
  pub full : length held.history ≡ held.limit

-- These events ran as calls made by the pass, from a state that a legal history of a new device leads to. The pass
-- gained exactly their calls, each with the device's reply. The history with their entries added is legal too.
pub record AreAnswered (vfs fifo : ℕ) (old : PassValue) (events : List (Event Block)) (new : PassValue) : Type 0 where
  pub held : Held
  pub legal : IsLegal (new_state vfs fifo) held.history
  pub leads : leads_to (new_state vfs fifo) held.history ≡ held.device
  pub noted : new ≡ with_calls old (calls_made held.device events)
  pub legal_after : IsLegal (new_state vfs fifo) (after_calls held old.tag events).history

-- The queue's device steps ran as calls made by the pass, followed by this event. They ran from a state that a legal
-- history of a new device leads to. `reply` is the device's reply to the event.
pub record IsAnsweredStepped (vfs fifo queue : ℕ) (old new : PassValue) (event : Event Block) (reply : Reply Block)
    : Type 0 where
  pub made : AreAnswered vfs fifo old (steps_of_queue queue ++ event ∷ []) new
  pub answer : reply ≡ (step_of (state_after made.held.device (steps_of_queue queue)) event).reply

-- Some of the queue's device steps ran as calls made by the pass, starting with the first step, but nothing else. They
-- ran from a state that a legal history of a new device leads to.
abbrev pub StopsAnswered : ℕ → ℕ → ℕ → PassValue → PassValue → Type 0
StopsAnswered vfs fifo queue old new = (count : ℕ) × AreAnswered vfs fifo old (take count (steps_of_queue queue)) new
