-- How a pass runs its queue's device steps before a call.
use Rattle.std.specs.Prelude.{◌≡◌, ℕ, List, [], ◌∷◌, ◌++◌, map, take}
use Rattle.nic_device.specs.DmaArena.Block.{Block}
use Rattle.nic_device.specs.State.{State}
use Rattle.nic_device.specs.Step.{step_of}
use Rattle.nic_device.specs.DmaRing.declared.dir.Dir.TheVariants as dir
use Rattle.nic_device.specs.declared.event.Event.{Event}
use Rattle.nic_device.specs.declared.event.Event.TheVariants as event
use Rattle.nic_device.specs.declared.event.Reply.{Reply}
use Rattle.device_lock.specs.declared.entry.Call.{Call}
use Rattle.device_lock.specs.Kept.{Held}
use Rattle.device_lock.specs.Pass.{PassValue, call_of}
use Rattle.device_lock.specs.Resting.{after_calls}

-- The device steps before each call: they switch both sides of the queue, then send, then receive.
abbrev pub steps_of_queue : ℕ → List (Event Block)
steps_of_queue queue =
    event.QueueStep dir.Rx queue ∷ event.QueueStep dir.Tx queue ∷ event.TxStep queue ∷ event.RxStep ∷ []

-- The same pass with these calls added.
abbrev pub with_calls : PassValue → List Call → PassValue
with_calls p calls = record p { calls = p.calls ++ calls }

-- The events of calls, in order.
abbrev pub events_in : List Call → List (Event Block)
events_in calls = map (λ (c : Call). c.event) calls

-- The pass ran these events, whatever their replies.
abbrev pub AreStepped : PassValue → PassValue → List (Event Block) → Type 0
AreStepped old new events =
    (steps : List Call) × (events_in steps ≡ events) × (new ≡ with_calls old steps)

-- Some of the queue's device steps ran, starting with the first, but nothing else.
abbrev pub StopsStepping : ℕ → PassValue → PassValue → Type 0
StopsStepping queue old new = (count : ℕ) × AreStepped old new (take count (steps_of_queue queue))

-- The queue's device steps ran, followed by this event.
abbrev pub StepsAndMakes : ℕ → PassValue → PassValue → Event Block → Reply Block → Type 0
StepsAndMakes queue old new event reply =
    (steps : List Call) × (events_in steps ≡ steps_of_queue queue)
    × (new ≡ with_calls old (steps ++ call_of event reply ∷ []))

-- The calls of these events, run from a state, each with the device's reply.
abbrev pub calls_made : State → List (Event Block) → List Call
calls_made s [] = []
calls_made s (event ∷ events) = call_of event (step_of s event).reply ∷ calls_made (step_of s event).state events

-- These events ran on the device under the lock, as calls made by the pass. Only these events changed the data under
-- the lock. The pass gained exactly their calls, each with the device's reply.
pub record AreMade (held : Held) (old : PassValue) (events : List (Event Block)) (then : Held) (new : PassValue)
    : Type 0 where
  pub under : then ≡ after_calls held old.tag events
  pub noted : new ≡ with_calls old (calls_made held.device events)

-- Some of the queue's device steps ran in this way, starting with the first, but nothing else.
abbrev pub StopsMaking : ℕ → Held → PassValue → Held → PassValue → Type 0
StopsMaking queue held old then new = (count : ℕ) × AreMade held old (take count (steps_of_queue queue)) then new
