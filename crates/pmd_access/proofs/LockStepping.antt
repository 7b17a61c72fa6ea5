-- Lemmas about the device steps that a pass runs.
use Rattle.std.proofs.Common.{◌≡◌, List, [], ◌∷◌, ◌++◌, take, sym, ap, ◌∙◌, subst, Result, Ok, Err, IfOk, IfErr, OnErr}
use Rattle.device_lock.specs.NicDevice.DmaArena.Block.{Block}
use Rattle.device_lock.specs.NicDevice.declared.event.Event.{Event}
use Rattle.device_lock.specs.NicDevice.declared.event.Reply.{Reply}
use Rattle.device_lock.specs.declared.entry.Call.{Call}
use Rattle.device_lock.specs.declared.fault.CallFault.{CallFault}
use Rattle.device_lock.specs.Fault.{event_of}
use Rattle.device_lock.specs.Pass.{PassValue, call_of}
use Rattle.device_lock.specs.Stepping.{steps_of_queue, events_in}
use Rattle.device_lock.specs.Stepping as stepping
use Rattle.pmd_access.specs.Made.{Adds, AddsSome, AreSteps}
use Rattle.pmd_access.proofs.Stepping.{first_steps, queue_steps}
use Rattle.pmd_access.proofs.Steps.{AllSteps}
use Rattle.pmd_access.specs.Stepped.{AtLock, AreStepped, StepsAndMakes, StopsStepping, refusals_of, with_calls}

-- What the pass did under the lock is also what the `Nic` did.

pub pass_made : (r : Result (Reply Block) (CallFault (Event Block))) (e : Event Block) (old view : AtLock)
    (pass : PassValue) → view ≡ old → IfOk r (λ x. stepping.StepsAndMakes view.queue view.pass pass e x)
    → IfOk r (λ x. StepsAndMakes old (record view { pass = pass }) e x)
pass_made (Ok x) e old view pass same (steps, are, is) = (
  steps,
  are ∙ ap (λ (t : AtLock). steps_of_queue t.queue) same,
  ap (λ (p : PassValue). record view { pass = p }) is
      ∙ ap (λ (t : AtLock). with_calls t (steps ++ call_of e x ∷ [])) same,
)
pass_made (Err f) e old view pass same makes = tt

pub pass_stops : (r : Result (Reply Block) (CallFault (Event Block))) (old view : AtLock) (pass : PassValue)
    → view ≡ old → OnErr r (stepping.StopsStepping view.queue view.pass pass)
    → OnErr r (StopsStepping old (record view { pass = pass }))
pass_stops (Ok x) old view pass same stops = tt
pass_stops (Err f) old view pass same (count, (steps, are, is)) = (
  count,
  (
    steps,
    are ∙ ap (λ (t : AtLock). take count (steps_of_queue t.queue)) same,
    ap (λ (p : PassValue). record view { pass = p }) is ∙ ap (λ (t : AtLock). with_calls t steps) same,
  ),
)

-- The steps and the event are the calls that the `Nic` adds.

are_steps : (calls : List Call) → AllSteps (events_in calls) → AreSteps calls
are_steps [] steps = tt
are_steps (c ∷ calls) steps = (steps.0, are_steps calls steps.1)

pub made_adds : (r : Result (Reply Block) (CallFault (Event Block))) (e : Event Block) (old new : AtLock)
    → IfOk r (λ x. StepsAndMakes old new e x) → IfOk r (λ x. Adds old.pass.calls new.pass.calls e x)
made_adds (Ok x) e old new (steps, are, is) = (
  steps,
  ap (λ (t : AtLock). t.pass.calls) is,
  are_steps steps (subst AllSteps (sym are) (queue_steps old.queue)),
)
made_adds (Err f) e old new makes = tt

pub refused_adds : (r : Result (Reply Block) (CallFault (Event Block))) (e : Event Block) (old new : AtLock)
    → IfErr r (λ f. event_of f ≡ e) → OnErr r (StopsStepping old new)
    → IfErr r (λ f. (event_of f ≡ e) × AddsSome old.pass.calls new.pass.calls)
refused_adds (Ok x) e old new back stops = tt
refused_adds (Err f) e old new back (count, made) = (
  back,
  (
    made.0,
    ap (λ (t : AtLock). t.pass.calls) made.2,
    are_steps made.0
        (subst AllSteps (sym made.1) (first_steps count (steps_of_queue old.queue) (queue_steps old.queue))),
  ),
)

-- The `Nic` may refuse calls for the same reasons as before.

stepped_same : (old new : AtLock) (events : List (Event Block)) → AreStepped old new events
    → refusals_of new ≡ refusals_of old
stepped_same old new events (steps, are, is) = ap (λ (t : AtLock). refusals_of t) is

pub call_same : (r : Result (Reply Block) (CallFault (Event Block))) (e : Event Block) (old new : AtLock)
    → IfOk r (λ x. StepsAndMakes old new e x) → OnErr r (StopsStepping old new) → refusals_of new ≡ refusals_of old
call_same (Ok x) e old new (steps, are, is) stops = ap (λ (t : AtLock). refusals_of t) is
call_same (Err f) e old new makes (count, made) = stepped_same old new _ made
