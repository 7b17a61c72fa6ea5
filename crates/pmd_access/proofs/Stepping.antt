-- Lemmas about the device steps of a device in hand.
use Rattle.std.proofs.Common.{◌≡◌, ℕ, zero, suc, List, [], ◌∷◌, ◌++◌, take, refl, sym, ap, ◌∙◌, append_assoc, Result, Ok, Err, IfOk, IfErr, OnOk, OnErr}
use Rattle.std.proofs.lemmas.List.{append-nil}
use Rattle.device_lock.specs.NicDevice.DmaArena.Block.{Block}
use Rattle.device_lock.specs.NicDevice.Step.{step_of}
use Rattle.device_lock.specs.NicDevice.declared.event.Event.{Event}
use Rattle.device_lock.specs.NicDevice.declared.event.Event.TheVariants as event
use Rattle.device_lock.specs.NicDevice.declared.event.Reply.{Reply}
use Rattle.device_lock.specs.NicDevice.DmaRing.declared.dir.Dir.TheVariants as dir
use Rattle.device_lock.specs.declared.fault.CallFault.{CallFault}
use Rattle.device_lock.specs.declared.fault.CallFault.TheVariants.{OutOfMemory}
use Rattle.device_lock.specs.Fault.{event_of}
use Rattle.device_lock.specs.declared.entry.Call.{Call}
use Rattle.device_lock.specs.Pass.{call_of}
use Rattle.device_lock.specs.Stepping.{steps_of_queue}
use Rattle.pmd_access.specs.Made.{InHand, Adds, AddsSome, StopsDuring, after_event, after_events}
use Rattle.pmd_access.proofs.Steps.{AllSteps, steps-append}

-- Steps append their calls.
pub events_add : (es : List (Event Block)) (old : InHand) → AllSteps es → AddsSome old.calls (after_events old es).calls
events_add [] old steps = ([], sym (append-nil old.calls), tt)
events_add (e ∷ es) old steps =
    let rest = events_add es (after_event old e) steps.1 in
    let one : List Call = call_of e (step_of old.device e).reply ∷ [] in
    (one ++ rest.0, rest.1 ∙ append_assoc old.calls one rest.0, (steps.0, rest.2))

pub first_steps : (n : ℕ) (es : List (Event Block)) → AllSteps es → AllSteps (take n es)
first_steps zero es steps = tt
first_steps (suc n) [] steps = tt
first_steps (suc n) (e ∷ es) steps = (steps.0, first_steps n es steps.1)

pub queue_steps : (queue : ℕ) → AllSteps (steps_of_queue queue)
queue_steps queue = (refl, (refl, (refl, (refl, tt))))

pub during_adds : (old new : InHand) → StopsDuring old new → AddsSome old.calls new.calls
during_adds old new (made, is) =
    let steps = first_steps made (steps_of_queue old.queue) (queue_steps old.queue) in
    let some = events_add (take made (steps_of_queue old.queue)) old steps in
    (some.0, ap (λ (h : InHand). h.calls) is ∙ some.1, some.2)

-- The last event's call is added after the steps.
last_adds : (es : List (Event Block)) (e : Event Block) (r : Reply Block) (old mid new : InHand) → AllSteps es
    → mid ≡ after_events old es → Adds mid.calls new.calls e r → Adds old.calls new.calls e r
last_adds es e r old mid new steps is (before, adds, are) =
    let some = events_add es old steps in
    let one : List Call = before ++ call_of e r ∷ [] in (
      some.0 ++ before,
      adds ∙ ap (λ (h : InHand). h.calls ++ one) is ∙ ap (λ (l : List Call). l ++ one) some.1
          ∙ append_assoc old.calls some.0 one
          ∙ ap (λ (l : List Call). old.calls ++ l) (sym (append_assoc some.0 before (call_of e r ∷ []))),
      steps-append some.0 before some.2 are,
    )

one_adds : (old new : InHand) (e : Event Block) (r : Reply Block) → new ≡ after_event old e
    → r ≡ (step_of old.device e).reply → Adds old.calls new.calls e r
one_adds old new e r is reply =
    ([], ap (λ (h : InHand). h.calls) is ∙ ap (λ (x : Reply Block). old.calls ++ call_of e x ∷ []) (sym reply), tt)

-- `StopsDuring` also holds if all steps ran and nothing else happened.
pub stops_after : (old mid new : InHand) → mid ≡ after_events old (steps_of_queue old.queue) → new ≡ mid
    → StopsDuring old new
stops_after old mid new all same = (4, same ∙ all)

-- `StopsDuring` holds if two or three steps ran.
module _ (old start a b : InHand) (queue : ℕ) (begun : start ≡ old) (own : queue ≡ old.queue)
    (first : a ≡ after_event start (event.QueueStep dir.Rx queue))
    (second : b ≡ after_event a (event.QueueStep dir.Tx queue)) where
  two_steps : b ≡ after_events old (take 2 (steps_of_queue old.queue))
  two_steps =
      let both : ℕ → InHand =
      λ n. after_event (after_event old (event.QueueStep dir.Rx n)) (event.QueueStep dir.Tx n) in
      second
      ∙ ap (λ (h : InHand). after_event h (event.QueueStep dir.Tx queue))
      (first ∙ ap (λ (h : InHand). after_event h (event.QueueStep dir.Rx queue)) begun)
      ∙ ap both own

  pub two_made : (new : InHand) → new ≡ b → StopsDuring old new
  two_made new same = (2, same ∙ two_steps)

  pub three_made : (d new : InHand) → d ≡ after_event b (event.TxStep queue) → new ≡ d → StopsDuring old new
  three_made d new third same = (
    3,
    same ∙ third ∙ ap (λ (h : InHand). after_event h (event.TxStep queue)) two_steps
        ∙ ap (λ (n : ℕ). after_event (after_events old (take 2 (steps_of_queue old.queue))) (event.TxStep n)) own,
  )

-- The last event gets its reply, or is refused.

pub reply_adds : (es : List (Event Block)) (e : Event Block) (r : Result (Reply Block) (CallFault (Event Block)))
    (old mid new : InHand) → AllSteps es → mid ≡ after_events old es → OnOk r (new ≡ after_event mid e)
    → IfOk r (λ x. x ≡ (step_of mid.device e).reply) → IfOk r (λ x. Adds old.calls new.calls e x)
reply_adds es e (Ok x) old mid new steps is made reply =
    last_adds es e x old mid new steps is (one_adds mid new e x made reply)
reply_adds es e (Err f) old mid new steps is made reply = tt

pub refused_during : (r : Result (Reply Block) (CallFault (Event Block))) (old mid new : InHand)
    → mid ≡ after_events old (steps_of_queue old.queue) → OnErr r (new ≡ mid) → OnErr r (StopsDuring old new)
refused_during (Ok x) old mid new all same = tt
refused_during (Err f) old mid new all same = stops_after old mid new all same

pub refused_adds : (e : Event Block) (r : Result (Reply Block) (CallFault (Event Block))) (old new : InHand)
    → IfErr r (λ f. f ≡ OutOfMemory e) → OnErr r (StopsDuring old new)
    → IfErr r (λ f. (event_of f ≡ e) × AddsSome old.calls new.calls)
refused_adds e (Ok x) old new back during = tt
refused_adds e (Err f) old new back during =
    (ap (λ (g : CallFault (Event Block)). event_of g) back, during_adds old new during)
