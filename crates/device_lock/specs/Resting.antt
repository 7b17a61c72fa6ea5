-- Idle events: their calls and entries, and the data under the lock after some events.
use Rattle.std.specs.Prelude.{ℕ, Bool, true, false, ⊤, List, [], ◌∷◌, ◌++◌, map}
use Rattle.nic_device.specs.DmaArena.Block.{Block}
use Rattle.nic_device.specs.State.{State}
use Rattle.nic_device.specs.Resting.{IsIdle}
use Rattle.nic_device.specs.DmaRing.declared.dir.Dir.TheVariants as dir
use Rattle.nic_device.specs.declared.event.Event.{Event}
use Rattle.nic_device.specs.declared.event.Event.TheVariants as event
use Rattle.nic_device.specs.declared.event.Reply.TheVariants.{Idle}
use Rattle.device_lock.specs.declared.entry.Call.{Call}
use Rattle.device_lock.specs.declared.entry.Entry.{Entry}
use Rattle.device_lock.specs.declared.resting.IdleSteps.{IdleSteps}
use Rattle.device_lock.specs.History.{entry_of}
use Rattle.device_lock.specs.Kept.{Held, after_call}
use Rattle.device_lock.specs.Pass.{call_of}

-- The calls of idle events, and their entries.
abbrev pub idle_calls : List (Event Block) → List Call
idle_calls events = map (λ (e : Event Block). call_of e Idle) events

abbrev pub idle_entries : ℕ → List (Event Block) → List Entry
idle_entries tag events = map (λ (e : Event Block). entry_of tag e Idle) events

-- A list that contains only this event, or an empty list if the event didn't run.
abbrev pub step_if : Bool → Event Block → List (Event Block)
step_if true e = e ∷ []
step_if false e = []

-- The queue's device steps that ran, in order.
abbrev pub steps_in : IdleSteps → List (Event Block)
steps_in s =
    step_if s.receive_side (event.QueueStep dir.Rx s.queue)
    ++ (step_if s.transmit_side (event.QueueStep dir.Tx s.queue)
    ++ (step_if s.sending (event.TxStep s.queue) ++ step_if s.receiving event.RxStep))

-- Each event would be idle in this state.
abbrev pub AreIdle : State → List (Event Block) → Type 0
AreIdle s [] = ⊤
AreIdle s (e ∷ events) = IsIdle s e × AreIdle s events

-- The data under the lock after some calls made by one pass.
abbrev pub after_calls : Held → ℕ → List (Event Block) → Held
after_calls h tag [] = h
after_calls h tag (e ∷ events) = after_calls (after_call h tag e) tag events
