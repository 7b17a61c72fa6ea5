-- Lemmas about device steps that a pass runs: what they do to the pass and to the data under the lock.
use Rattle.std.proofs.Common.{◌≡◌, ℕ, List, [], ◌∷◌, ◌++◌, take, refl, sym, ap, ◌∙◌, append_assoc, append-nil, Result, Ok, Err, IfOk, OnOk, OnErr}
use Rattle.std.proofs.lemmas.Result.{err_from_is_err_and}
use Rattle.std.specs.Prelude.{IsErrAnd}
use Rattle.nic_device.specs.DmaArena.Block.{Block}
use Rattle.nic_device.specs.Run.{state_after}
use Rattle.nic_device.specs.State.{State, new_state}
use Rattle.nic_device.specs.Step.{step_of}
use Rattle.nic_device.specs.declared.event.Event.{Event}
use Rattle.nic_device.specs.declared.event.Event.TheVariants as event
use Rattle.nic_device.specs.declared.event.Reply.{Reply}
use Rattle.nic_device.specs.DmaRing.declared.dir.Dir.TheVariants as dir
use Rattle.device_lock.specs.declared.entry.Call.{Call}
use Rattle.device_lock.specs.declared.fault.CallFault.{CallFault}
use Rattle.device_lock.specs.declared.fault.CallFault.TheVariants.{ForeignPass, HistoryFull, OutOfMemory}
use Rattle.device_lock.specs.Calling.{AreAnswered, IsAnsweredStepped, StopsAnswered}
use Rattle.device_lock.specs.Fault.{event_of, fault_with}
use Rattle.device_lock.specs.History.{leads_to, IsLegal, entry_of}
use Rattle.device_lock.specs.Kept.{Held, after_call, opened}
use Rattle.device_lock.specs.Pass.{PassValue, call_of, with_call}
use Rattle.device_lock.specs.Resting.{after_calls}
use Rattle.device_lock.specs.Stepping.{AreMade, StepsAndMakes, StopsMaking, StopsStepping, calls_made, events_in, steps_of_queue, with_calls}
use Rattle.device_lock.proofs.Histories.{leads_to-snoc, legal_more}

-- Adding some calls to a pass and then more is the same as adding all of them.

with_both : (t : PassValue) (a b : List Call) → with_calls (with_calls t a) b ≡ with_calls t (a ++ b)
with_both t a b =
    ap (λ (l : List Call). record t { calls = l }) (append_assoc t.calls a b)

with_none : (t : PassValue) → with_calls t [] ≡ t
with_none t = ap (λ (l : List Call). record t { calls = l }) (append-nil t.calls)

calls_more : (s : State) (xs ys : List (Event Block))
    → calls_made s (xs ++ ys) ≡ calls_made s xs ++ calls_made (state_after s xs) ys
calls_more s [] ys = refl
calls_more s (x ∷ xs) ys =
    ap (λ (l : List Call). call_of x (step_of s x).reply ∷ l) (calls_more (step_of s x).state xs ys)

after_more : (h : Held) (tag : ℕ) (xs ys : List (Event Block))
    → after_calls h tag (xs ++ ys) ≡ after_calls (after_calls h tag xs) tag ys
after_more h tag [] ys = refl
after_more h tag (x ∷ xs) ys = after_more (after_call h tag x) tag xs ys

after_device : (h : Held) (tag : ℕ) (es : List (Event Block)) → (after_calls h tag es).device ≡ state_after h.device es
after_device h tag [] = refl
after_device h tag (e ∷ es) = after_device (after_call h tag e) tag es

-- The history under the lock stays legal.
legal_after : (s : State) (h : Held) (tag : ℕ) (es : List (Event Block))
    → IsLegal s h.history → leads_to s h.history ≡ h.device → IsLegal s (after_calls h tag es).history
legal_after s h tag [] legal leads = legal
legal_after s h tag (e ∷ es) legal leads =
    let entry = entry_of tag e (step_of h.device e).reply in
    legal_after s (after_call h tag e) tag es
    (legal_more s h.history entry legal (ap (λ (d : State). (step_of d e).reply) (sym leads)))
    (leads_to-snoc s h.history entry ∙ ap (λ (d : State). (step_of d e).state) leads)

events_made : (s : State) (es : List (Event Block)) → events_in (calls_made s es) ≡ es
events_made s [] = refl
events_made s (e ∷ es) = ap (λ (l : List (Event Block)). e ∷ l) (events_made (step_of s e).state es)

-- How `AreMade` for single events extends to events that run one after the other.

pub one_made : (h then : Held) (old new : PassValue) (e : Event Block) (x : Reply Block) → then ≡ after_call h old.tag e
    → x ≡ (step_of h.device e).reply → new ≡ with_call old e x → AreMade h old (e ∷ []) then new
one_made h then old new e x under reply noted = record {
  under = under;
  noted = noted ∙ ap (λ (r : Reply Block). with_call old e r) reply;
}

pub both_made : (h i j : Held) (p q r : PassValue) (xs ys : List (Event Block)) → AreMade h p xs i q
    → AreMade i q ys j r → AreMade h p (xs ++ ys) j r
both_made h i j p q r xs ys a b =
    let made = calls_made h.device xs in
    let tag : q.tag ≡ p.tag = ap (λ (t : PassValue). t.tag) a.noted in
    let device : i.device ≡ state_after h.device xs =
    ap (λ (t : Held). t.device) a.under ∙ after_device h p.tag xs in
    record {
      under =
          b.under ∙ ap (λ (t : ℕ). after_calls i t ys) tag ∙ ap (λ (t : Held). after_calls t p.tag ys) a.under
          ∙ sym (after_more h p.tag xs ys);
      noted =
          b.noted ∙ ap (λ (t : PassValue). with_calls t (calls_made i.device ys)) a.noted
          ∙ with_both p made (calls_made i.device ys)
          ∙ ap (λ (s : State). with_calls p (made ++ calls_made s ys)) device
          ∙ ap (λ (l : List Call). with_calls p l) (sym (calls_more h.device xs ys));
    }

pub two_made : (h i j : Held) (p q r : PassValue) (x y : Event Block) → AreMade h p (x ∷ []) i q
    → AreMade i q (y ∷ []) j r → AreMade h p (x ∷ y ∷ []) j r
two_made h i j p q r x y a b = both_made h i j p q r (x ∷ []) (y ∷ []) a b

pub three_made : (h i j k : Held) (p q r s : PassValue) (x y z : Event Block) → AreMade h p (x ∷ []) i q
    → AreMade i q (y ∷ []) j r → AreMade j r (z ∷ []) k s → AreMade h p (x ∷ y ∷ z ∷ []) k s
three_made h i j k p q r s x y z a b c =
    both_made h j k p r s (x ∷ y ∷ []) (z ∷ []) (two_made h i j p q r x y a b) c

pub all_made : (h i j k l : Held) (p q r s t : PassValue) (queue : ℕ)
    → AreMade h p (event.QueueStep dir.Rx queue ∷ []) i q → AreMade i q (event.QueueStep dir.Tx queue ∷ []) j r
    → AreMade j r (event.TxStep queue ∷ []) k s → AreMade k s (event.RxStep ∷ []) l t
    → AreMade h p (steps_of_queue queue) l t
all_made h i j k l p q r s t queue a b c d =
    both_made h k l p s t _ (event.RxStep ∷ []) (three_made h i j k p q r s _ _ _ a b c) d

-- The steps of a queue at rest.

-- What holds if the steps stop early.

none_made : (h then : Held) (old new : PassValue) → (then ≡ h) × (new ≡ old) → AreMade h old [] then new
none_made h then old new same = record { under = same.0; noted = same.1 ∙ sym (with_none old) }

pub none_stopped : (h then : Held) (old new : PassValue) (queue : ℕ) → (then ≡ h) × (new ≡ old)
    → StopsMaking queue h old then new
none_stopped h then old new queue same = (0, none_made h then old new same)

-- If the steps stop after `count` steps and nothing else happens, `StopsMaking` holds.
pub stopped : (h i then : Held) (old mid new : PassValue) (queue count : ℕ)
    → AreMade h old (take count (steps_of_queue queue)) i mid → (then ≡ i) × (new ≡ mid)
    → StopsMaking queue h old then new
stopped h i then old mid new queue count made same =
    (count, record { under = same.0 ∙ made.under; noted = same.1 ∙ made.noted })

-- If all steps ran and the event was refused, `StopsMaking` holds.
pub none_after : (r : Result (Reply Block) (CallFault (Event Block))) (queue : ℕ) (h i then : Held)
    (old mid new : PassValue)
    → AreMade h old (steps_of_queue queue) i mid → OnErr r ((then ≡ i) × (new ≡ mid))
    → OnErr r (StopsMaking queue h old then new)
none_after (Ok x) queue h i then old mid new made same = tt
none_after (Err f) queue h i then old mid new made same = stopped h i then old mid new queue 4 made same

-- What holds if all steps ran, followed by the event.

module _ (queue : ℕ) (e : Event Block) (h i then : Held) (old mid new : PassValue)
    (made : AreMade h old (steps_of_queue queue) i mid) where
  pub made_after : (r : Result (Reply Block) (CallFault (Event Block)))
      → OnOk r (then ≡ after_call i mid.tag e) → IfOk r (λ x. new ≡ with_call mid e x)
      → IfOk r (λ x. x ≡ (step_of i.device e).reply)
      → OnOk r (AreMade h old (steps_of_queue queue ++ e ∷ []) then new)
  made_after (Ok x) under noted reply =
      both_made h i then old mid new (steps_of_queue queue) (e ∷ []) made
      (one_made i then mid new e x under reply noted)
  made_after (Err f) under noted reply = tt

  pub answer_after : (r : Result (Reply Block) (CallFault (Event Block)))
      → IfOk r (λ x. x ≡ (step_of i.device e).reply)
      → IfOk r (λ x. x ≡ (step_of (state_after h.device (steps_of_queue queue)) e).reply)
  answer_after (Ok x) reply =
      reply ∙ ap (λ (d : State). (step_of d e).reply)
      (ap (λ (t : Held). t.device) made.under ∙ after_device h old.tag (steps_of_queue queue))
  answer_after (Err f) reply = tt

-- What the caller learns from the result, without seeing the data under the lock.

module _ (queue : ℕ) (e : Event Block) (h then : Held) (old new : PassValue) where
  pub exactly : (r : Result (Reply Block) (CallFault (Event Block)))
      → OnOk r (AreMade h old (steps_of_queue queue ++ e ∷ []) then new)
      → IfOk r (λ x. x ≡ (step_of (state_after h.device (steps_of_queue queue)) e).reply)
      → IfOk r (λ x. StepsAndMakes queue old new e x)
  exactly (Ok x) made reply =
      let steps = calls_made h.device (steps_of_queue queue) in (
        steps,
        events_made h.device (steps_of_queue queue),
        made.noted ∙ ap (λ (l : List Call). with_calls old l) (calls_more h.device (steps_of_queue queue) (e ∷ []))
            ∙ ap (λ (y : Reply Block). with_calls old (steps ++ call_of e y ∷ [])) (sym reply),
      )
  exactly (Err f) made reply = tt

  pub stops : (r : Result (Reply Block) (CallFault (Event Block))) → OnErr r (StopsMaking queue h old then new)
      → OnErr r (StopsStepping queue old new)
  stops (Ok x) made = tt
  stops (Err f) (count, made) =
      let es = take count (steps_of_queue queue) in
      (count, (calls_made h.device es, events_made h.device es, made.noted))

  module _ (vfs fifo : ℕ) (legal : IsLegal (new_state vfs fifo) h.history)
      (leads : leads_to (new_state vfs fifo) h.history ≡ h.device) where
    abbrev all_answered : (es : List (Event Block)) → AreMade h old es then new → AreAnswered vfs fifo old es new
    all_answered es made = record {
      held = h;
      legal = legal;
      leads = leads;
      noted = made.noted;
      legal_after = legal_after (new_state vfs fifo) h old.tag es legal leads;
    }

    pub is_answered : (r : Result (Reply Block) (CallFault (Event Block)))
        → OnOk r (AreMade h old (steps_of_queue queue ++ e ∷ []) then new)
        → IfOk r (λ x. x ≡ (step_of (state_after h.device (steps_of_queue queue)) e).reply)
        → IfOk r (λ x. IsAnsweredStepped vfs fifo queue old new e x)
    is_answered (Ok x) made reply = record {
      made = all_answered (steps_of_queue queue ++ e ∷ []) made;
      answer = reply;
    }
    is_answered (Err f) made reply = tt

    pub stops_answered : (r : Result (Reply Block) (CallFault (Event Block)))
        → OnErr r (StopsMaking queue h old then new) → OnErr r (StopsAnswered vfs fifo queue old new)
    stops_answered (Ok x) made = tt
    stops_answered (Err f) (count, made) = (count, all_answered (take count (steps_of_queue queue)) made)

pub foreign_answered : (vfs fifo : ℕ) (old : PassValue) (queue : ℕ) → StopsAnswered vfs fifo queue old old
foreign_answered vfs fifo old queue = (
  0,
  record {
    held = opened vfs fifo 0;
    legal = tt;
    leads = refl;
    noted = sym (with_none old);
    legal_after = tt;
  },
)

-- A refusal for a full history stays one when its event is replaced.
pub full_again : {T U E F : Type 0} (reported : CallFault F) (f : CallFault E) (x : F) (e : E) → reported
    ≡ fault_with f x
    → event_of f ≡ e → ◌≡◌ {A = Result T (CallFault F)} (Err reported) (Err (HistoryFull x))
    → ◌≡◌ {A = Result U (CallFault E)} (Err f) (Err (HistoryFull e))
full_again reported (HistoryFull y) x e is back same = ap (λ z. Err (HistoryFull z)) back
full_again reported (ForeignPass y) x e is back same = absurd cc
full_again reported (OutOfMemory y) x e is back same = absurd cc

-- The error that `?` returns to the caller.
pub passed_on : {T E : Type 0} (r : Result T E) (e f : E) → IsErrAnd r (λ y. y ≡ e) → r ≡ Err f
    → ◌≡◌ {A = Result T E} (Err e) (Err f)
passed_on r e f is same =
    let p = err_from_is_err_and r is in sym (ap (λ y. Err y) p.2) ∙ (sym p.1 ∙ same)

-- A fact that always holds also holds if the result is an error.
pub on_err : {T E P : Type 0} (r : Result T E) → P → OnErr r P
on_err (Ok x) p = tt
on_err (Err e) p = p
