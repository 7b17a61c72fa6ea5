-- Lemmas: the calls made to a device in hand are a legal history from the state in which it began.
use Rattle.std.proofs.Common.{◌≡◌, ◌<◌, ℕ, zero, suc, Bool, List, [], ◌∷◌, ◌++◌, length, take, refl, sym, ap, subst, ◌∙◌, arith, Result, Ok, Err, IfOk, OnOk, OnErr}
use Rattle.std.specs.Prelude.{⊤}
use Rattle.std.proofs.lemmas.List.{map-append}
use Rattle.device_lock.specs.NicDevice.DmaArena.Block.{Block}
use Rattle.device_lock.specs.NicDevice.Sound.{IsEvent}
use Rattle.device_lock.specs.NicDevice.State.{State}
use Rattle.device_lock.specs.NicDevice.Step.{step_of}
use Rattle.device_lock.specs.NicDevice.declared.event.Event.{Event}
use Rattle.device_lock.specs.NicDevice.declared.event.Reply.{Reply}
use Rattle.device_lock.specs.History.{entry_of}
use Rattle.device_lock.specs.Pass.{call_of}
use Rattle.device_lock.specs.Stepping.{steps_of_queue}
use Rattle.device_lock.specs.declared.entry.Call.{Call}
use Rattle.device_lock.specs.declared.entry.Entry.{Entry}
use Rattle.device_lock.specs.declared.fault.CallFault.{CallFault}
use Rattle.device_lock.proofs.Histories.{events_more, leads_to-snoc, legal_more}
use Rattle.pmd_access.specs.Begun.{BeganAs, From, LeadsTo, OfPass, began_at_lock, began_handled, began_in_hand}
use Rattle.pmd_access.specs.Begun.{entries_in, entry_by, marked_entries, tag_of}
use Rattle.pmd_access.specs.Made.{InHand, StopsDuring, after_event, after_events}
use Rattle.pmd_access.specs.Scheduled.{Handled}
use Rattle.pmd_access.specs.Stepped.{AtLock, StepsAndMakes, StopsStepping, with_calls}

-- The history stays legal when one event is added.
one_leads : (s : State) (h : List Entry) (device : State) (tag : ℕ) (e : Event Block) → LeadsTo s h device → IsEvent e
    → LeadsTo s (h ++ entry_of tag e (step_of device e).reply ∷ []) (step_of device e).state
one_leads s h device tag e led is =
    let x : Entry = entry_of tag e (step_of device e).reply in
    record {
      legal = legal_more s h x led.legal (ap (λ (d : State). (step_of d e).reply) (sym led.leads));
      events = events_more h x led.events is;
      leads = leads_to-snoc s h x ∙ ap (λ (d : State). (step_of d e).state) led.leads;
    }

-- The history of a device in hand stays legal when steps run.

event_begins : (h : InHand) (e : Event Block) → IsEvent e → BeganAs began_in_hand h (after_event h e)
event_begins h e is (OfPass bench tag) began = began
event_begins h e is (From s) began =
    subst (λ (l : List Entry). LeadsTo s l (step_of h.device e).state)
    (sym (map-append (entry_by 0) h.calls (call_of e (step_of h.device e).reply ∷ [])))
    (one_leads s (entries_in h.calls) h.device 0 e began is)

abbrev AllEvents : List (Event Block) → Type 0
AllEvents [] = ⊤
AllEvents (e ∷ es) = IsEvent e × AllEvents es

events_begin : (es : List (Event Block)) (h : InHand) → AllEvents es → BeganAs began_in_hand h (after_events h es)
events_begin [] h are o began = began
events_begin (e ∷ es) h are o began = events_begin es (after_event h e) are.1 o (event_begins h e are.0 o began)

first_events : (n : ℕ) (es : List (Event Block)) → AllEvents es → AllEvents (take n es)
first_events zero es are = tt
first_events (suc n) [] are = tt
first_events (suc n) (e ∷ es) are = (are.0, first_events n es are.1)

queue_events : (queue : ℕ) → queue < 65536 → AllEvents (steps_of_queue queue)
queue_events queue lt = (lt, (lt, (lt, (tt, tt))))

-- The history stays legal when some of the steps run, and when all steps run, followed by the event.
pub during_begins : (old new : InHand) → old.queue < 65536 → StopsDuring old new → BeganAs began_in_hand old new
during_begins old new lt (made, is) o began =
    let steps = steps_of_queue old.queue in
    subst (λ (h : InHand). began_in_hand h o) (sym is)
    (events_begin (take made steps) old (first_events made steps (queue_events old.queue lt)) o began)

pub call_begins : (r : Result (Reply Block) (CallFault (Event Block))) (e : Event Block) (old mid new : InHand)
    → IsEvent e → old.queue < 65536 → mid ≡ after_events old (steps_of_queue old.queue)
    → OnOk r (new ≡ after_event mid e) → OnErr r (new ≡ mid) → BeganAs began_in_hand old new
call_begins (Ok x) e old mid new is lt stepped made same o began =
    subst (λ (h : InHand). began_in_hand h o) (sym (made ∙ ap (λ (h : InHand). after_event h e) stepped))
    (event_begins (after_events old (steps_of_queue old.queue)) e is o
    (events_begin (steps_of_queue old.queue) old (queue_events old.queue lt) o began))
call_begins (Err f) e old mid new is lt stepped made same o began =
    subst (λ (h : InHand). began_in_hand h o) (sym (same ∙ stepped))
    (events_begin (steps_of_queue old.queue) old (queue_events old.queue lt) o began)

-- The history of a device stays legal when foreign events are applied between its calls.

marked_more : (calls : List Call) (own : List Bool) (c : Call) (b : Bool) → length own ≡ length calls
    → marked_entries (calls ++ c ∷ []) (own ++ b ∷ []) ≡ marked_entries calls own ++ entry_by (tag_of b) c ∷ []
marked_more [] [] c b long = refl
marked_more [] (a ∷ own) c b long = absurd (omega (arith, long))
marked_more (x ∷ calls) [] c b long = absurd (omega (arith, long))
marked_more (x ∷ calls) (a ∷ own) c b long =
    ap (λ (l : List Entry). entry_by (tag_of a) x ∷ l) (marked_more calls own c b (omega (arith, long)))

-- The history stays legal when one call is added, own or foreign.
one_begins : (h : Handled) (e : Event Block) (b : Bool) (foreign : List (Reply Block)) → length h.own ≡ length h.calls
    → IsEvent e
    → BeganAs began_handled h (record {
      device = (step_of h.device e).state;
      calls = h.calls ++ call_of e (step_of h.device e).reply ∷ [];
      own = h.own ++ b ∷ [];
      foreign = foreign;
    })
one_begins h e b foreign long is (OfPass bench tag) began = began
one_begins h e b foreign long is (From s) began =
    subst (λ (l : List Entry). LeadsTo s l (step_of h.device e).state)
    (sym (marked_more h.calls h.own (call_of e (step_of h.device e).reply) b long))
    (one_leads s (marked_entries h.calls h.own) h.device (tag_of b) e began is)

pub call_more_begins : (was now : Handled) (e : Event Block) (b : Bool) (device : State) (calls : List Call)
    (own : List Bool) (foreign : List (Reply Block)) → length was.own ≡ length was.calls → was ≡ now → IsEvent e
    → device ≡ (step_of was.device e).state → calls ≡ was.calls ++ call_of e (step_of was.device e).reply ∷ []
    → own ≡ was.own ++ b ∷ []
    → BeganAs began_handled now (record { device = device; calls = calls; own = own; foreign = foreign })
call_more_begins was now e b device calls own foreign long is event leads more marked o began =
    rw (leads, more, marked)
    (one_begins was e b foreign long event o (subst (λ (h : Handled). began_handled h o) (sym is) began))

-- A pass keeps its bench and its tag.

kept_at_lock : (t : AtLock) (calls : List Call) → BeganAs began_at_lock t (with_calls t calls)
kept_at_lock t calls (OfPass bench tag) began = began
kept_at_lock t calls (From s) began = began

pub lock_begins : (r : Result (Reply Block) (CallFault (Event Block))) (e : Event Block) (old new : AtLock)
    → IfOk r (λ x. StepsAndMakes old new e x) → OnErr r (StopsStepping old new) → BeganAs began_at_lock old new
lock_begins (Ok x) e old new (steps, are, is) during o began =
    subst (λ (t : AtLock). began_at_lock t o) (sym is) (kept_at_lock old (steps ++ call_of e x ∷ []) o began)
lock_begins (Err f) e old new makes (count, made) o began =
    subst (λ (t : AtLock). began_at_lock t o) (sym made.2) (kept_at_lock old made.0 o began)
