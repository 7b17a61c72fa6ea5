-- The calls that one call through a `Nic` adds.
use Rattle.std.specs.Prelude.{◌≡◌, ℕ, Bool, IsTrue, ⊤, List, [], ◌∷◌, ◌++◌, take}
use Rattle.device_lock.specs.NicDevice.DmaArena.Block.{Block}
use Rattle.device_lock.specs.NicDevice.State.{State}
use Rattle.device_lock.specs.NicDevice.Step.{step_of}
use Rattle.device_lock.specs.NicDevice.declared.event.Event.{Event}
use Rattle.device_lock.specs.NicDevice.declared.event.Reply.{Reply}
use Rattle.device_lock.specs.declared.entry.Call.{Call}
use Rattle.device_lock.specs.Pass.{call_of}
use Rattle.device_lock.specs.Stepping.{steps_of_queue}
use Rattle.device_lock.specs.Events.{is_step}

-- Each of these calls is a device step.
abbrev pub AreSteps : List Call → Type 0
AreSteps [] = ⊤
AreSteps (c ∷ calls) = IsTrue (is_step c.event) × AreSteps calls

-- The calls gained some device steps, followed by this call.
abbrev pub Adds : List Call → List Call → Event Block → Reply Block → Type 0
Adds old new event reply =
    (before : List Call) × (new ≡ old ++ (before ++ call_of event reply ∷ [])) × AreSteps before

-- The calls gained only device steps.
abbrev pub AddsSome : List Call → List Call → Type 0
AddsSome old new = (before : List Call) × (new ≡ old ++ before) × AreSteps before

-- The calls have marks, in order. Calls whose mark says that they aren't own are device steps, and so are all calls
-- after the last mark.
abbrev pub StepsWhere : {D : Type 0} → (D → Bool) → List D → List Call → Type 0
StepsWhere other [] calls = AreSteps calls
StepsWhere other (d ∷ marks) [] = ⊤
StepsWhere other (d ∷ marks) (c ∷ calls) =
    (IsTrue (other d) → IsTrue (is_step c.event)) × StepsWhere other marks calls

-- A device in hand, the queue whose device steps run before each call, and the calls made.
pub record InHand : Type 0 where
  pub device : State
  pub queue : ℕ
  pub calls : List Call

-- The state after one event.
abbrev pub after_event : InHand → Event Block → InHand
after_event h e = record h {
  device = (step_of h.device e).state;
  calls = h.calls ++ call_of e (step_of h.device e).reply ∷ [];
}

-- The state after a list of events.
abbrev pub after_events : InHand → List (Event Block) → InHand
after_events h [] = h
after_events h (e ∷ es) = after_events (after_event h e) es

-- Only the first of the queue's device steps ran, possibly none.
abbrev pub StopsDuring : InHand → InHand → Type 0
StopsDuring old new = (made : ℕ) × (new ≡ after_events old (take made (steps_of_queue old.queue)))
