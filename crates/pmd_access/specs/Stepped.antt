-- A pass to a shared device, with a queue whose device steps run before each call.
use Rattle.std.specs.Prelude.{◌≡◌, ◌==◌, ◌&&◌, ℕ, Bool, true, not, nat_lt, List, [], ◌∷◌, ◌++◌, take}
use Rattle.device_lock.specs.NicDevice.DmaArena.Block.{Block}
use Rattle.device_lock.specs.NicDevice.declared.event.Event.{Event}
use Rattle.device_lock.specs.NicDevice.declared.event.Reply.{Reply}
use Rattle.device_lock.specs.declared.entry.Call.{Call}
use Rattle.device_lock.specs.Pass.{PassValue, call_of}
use Rattle.device_lock.specs.Stepping.{steps_of_queue, events_in}
use Rattle.device_lock.specs.Stepping as stepping
use Rattle.pmd_access.specs.Refusals.{Refusals}

-- A pass, the shared device's bench number and number of passes, and the queue whose device steps run before each call.
pub record AtLock : Type 0 where
  pub bench : ℕ
  pub passes : ℕ
  pub queue : ℕ
  pub pass : PassValue

-- Whether the pass isn't one of the shared device's: it belongs to another bench, or its tag is out of range.
abbrev pub is_foreign : AtLock → Bool
is_foreign t = not ((t.pass.bench == t.bench) && nat_lt t.pass.tag t.passes)

-- The reasons for which the device may refuse calls: a full history, and a foreign pass if the pass is foreign.
abbrev pub refusals_of : AtLock → Refusals
refusals_of t = record { foreign = is_foreign t; full = true }

-- The same state with these calls added to the pass.
abbrev pub with_calls : AtLock → List Call → AtLock
with_calls t calls = record t { pass = stepping.with_calls t.pass calls }

-- The pass made these events, whatever the replies.
abbrev pub AreStepped : AtLock → AtLock → List (Event Block) → Type 0
AreStepped old new events =
    (steps : List Call) × (events_in steps ≡ events) × (new ≡ with_calls old steps)

-- The first few of the queue's device steps ran, or none of them.
abbrev pub StopsStepping : AtLock → AtLock → Type 0
StopsStepping old new = (count : ℕ) × AreStepped old new (take count (steps_of_queue old.queue))

-- The queue's device steps ran, followed by this event.
abbrev pub StepsAndMakes : AtLock → AtLock → Event Block → Reply Block → Type 0
StepsAndMakes old new event reply =
    (steps : List Call) × (events_in steps ≡ steps_of_queue old.queue)
    × (new ≡ with_calls old (steps ++ call_of event reply ∷ []))
