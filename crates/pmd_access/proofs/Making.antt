-- Lemmas about applying foreign events in order, then a call's own event.
use Rattle.std.proofs.Common.{◌≡◌, ◌<◌, Bool, true, false, List, [], ◌∷◌, ◌++◌, length, refl, sym, ap, subst, ◌∙◌, append_assoc, lt_irrefl, arith, Result, Ok, Err, IfOk, IfErr, OnErr}
use Rattle.std.proofs.lemmas.List.{append-nil}
use Rattle.device_lock.specs.NicDevice.DmaArena.Block.{Block}
use Rattle.device_lock.specs.NicDevice.declared.event.Event.{Event}
use Rattle.device_lock.specs.NicDevice.declared.event.Reply.{Reply}
use Rattle.device_lock.specs.Fault.{event_of}
use Rattle.device_lock.specs.declared.entry.Call.{Call}
use Rattle.device_lock.specs.declared.fault.CallFault.{CallFault}
use Rattle.device_lock.specs.declared.fault.CallFault.TheVariants.{OutOfMemory}
use Rattle.device_lock.specs.Pass.{call_of}
use Rattle.pmd_access.specs.Made.{Adds, AddsSome}
use Rattle.pmd_access.specs.Scheduled.{Handled, Scheduled, after_foreign, after_list, made_of, next_list, later_lists}
use Rattle.pmd_access.specs.Scheduled.{own_calls, IsMadeTo, StopsInList}

-- Applying two lists is applying their concatenation.
after_both : (h : Handled) (xs ys : List (Event Block)) → after_list h (xs ++ ys) ≡ after_list (after_list h xs) ys
after_both h [] ys = refl
after_both h (e ∷ xs) ys = after_both (after_foreign h e) xs ys

-- If one more foreign event is applied, the first events of the list up to this one were applied.
pub one_more : (old mid new : Handled) (all rest : List (Event Block)) (e : Event Block)
    → IsMadeTo old all mid (e ∷ rest) → new ≡ after_foreign mid e → IsMadeTo old all new rest
one_more old mid new all rest e (done, split, made) is = (
  done ++ e ∷ [],
  split ∙ sym (append_assoc done (e ∷ []) rest),
  is ∙ ap (λ (h : Handled). after_foreign h e) made ∙ sym (after_both old done (e ∷ [])),
)

-- Adding an own call adds it to the own calls; adding a foreign call doesn't change them.

pub own_more : (calls : List Call) (own : List Bool) (c : Call) → length own ≡ length calls
    → own_calls (calls ++ c ∷ []) (own ++ true ∷ []) ≡ own_calls calls own ++ c ∷ []
own_more [] [] c long = refl
own_more [] (b ∷ own) c long = absurd (omega (arith, long))
own_more (x ∷ calls) [] c long = absurd (omega (arith, long))
own_more (x ∷ calls) (true ∷ own) c long = ap (λ (l : List Call). x ∷ l) (own_more calls own c (omega (arith, long)))
own_more (x ∷ calls) (false ∷ own) c long = own_more calls own c (omega (arith, long))

pub own_same : (calls : List Call) (own : List Bool) (c : Call) → length own ≡ length calls
    → own_calls (calls ++ c ∷ []) (own ++ false ∷ []) ≡ own_calls calls own
own_same [] [] c long = refl
own_same [] (b ∷ own) c long = absurd (omega (arith, long))
own_same (x ∷ calls) [] c long = absurd (omega (arith, long))
own_same (x ∷ calls) (true ∷ own) c long = ap (λ (l : List Call). x ∷ l) (own_same calls own c (omega (arith, long)))
own_same (x ∷ calls) (false ∷ own) c long = own_same calls own c (omega (arith, long))

-- An own call is added to the list of calls made.

pub made_more : (was now : Handled) (calls : List Call) (own kept : List Bool) (reported c : Call)
    → length was.own ≡ length was.calls → was ≡ now → calls ≡ was.calls ++ reported ∷ [] → reported ≡ c → kept ≡ was.own
    → own ≡ kept ++ true ∷ [] → own_calls calls own ≡ made_of now ++ c ∷ []
made_more was now calls own kept reported c long is added same reserved marked =
    ap (λ (l : List Call). own_calls l own) added
    ∙ ap (λ (l : List Bool). own_calls (was.calls ++ reported ∷ []) l)
    (marked ∙ ap (λ (l : List Bool). l ++ true ∷ []) reserved)
    ∙ own_more was.calls was.own reported long
    ∙ ap (λ (x : Call). made_of was ++ x ∷ []) same
    ∙ ap (λ (h : Handled). made_of h ++ c ∷ []) is

pub made_still : (was now : Handled) (calls : List Call) (own kept : List Bool) (reported : Call)
    → length was.own ≡ length was.calls → was ≡ now → calls ≡ was.calls ++ reported ∷ [] → kept ≡ was.own
    → own ≡ kept ++ false ∷ [] → own_calls calls own ≡ made_of now
made_still was now calls own kept reported long is added reserved marked =
    ap (λ (l : List Call). own_calls l own) added
    ∙ ap (λ (l : List Bool). own_calls (was.calls ++ reported ∷ []) l)
    (marked ∙ ap (λ (l : List Bool). l ++ false ∷ []) reserved)
    ∙ own_same was.calls was.own reported long
    ∙ ap (λ (h : Handled). made_of h) is

-- A list stops at an event that is refused.
pub stops_in_list : (old new : Scheduled) (own : Handled) (list whole rest : List (Event Block))
    (after : List (List (Event Block))) → own ≡ old.handled → old.lists ≡ list ∷ after → whole ≡ list
    → new.lists ≡ rest ∷ after → 0 < length rest → IsMadeTo own whole new.handled rest → StopsInList old new
stops_in_list old new own list whole [] after same next all first some made = absurd (lt_irrefl 0 some)
stops_in_list old new own list whole (e ∷ rest) after same next all first some made = (
  e,
  rest,
  first ∙ ap (λ (ls : List (List (Event Block))). (e ∷ rest) ∷ later_lists ls) (sym next),
  subst (λ (h : Handled). IsMadeTo h (next_list old.lists) new.handled (e ∷ rest)) same
      (subst (λ (l : List (Event Block)). IsMadeTo own l new.handled (e ∷ rest))
      (all ∙ ap (λ (ls : List (List (Event Block))). next_list ls) (sym next)) made),
)

-- The call's own event is applied after the foreign ones, or is refused.

pub own_adds : (e : Event Block) (r : Result (Reply Block) (CallFault (Event Block))) (old mid new : Handled)
    → made_of mid ≡ made_of old → IfOk r (λ x. made_of new ≡ made_of mid ++ call_of e x ∷ [])
    → IfOk r (λ x. Adds (made_of old) (made_of new) e x)
own_adds e (Ok x) old mid new none own = ([], own ∙ ap (λ (l : List Call). l ++ call_of e x ∷ []) none, tt)
own_adds e (Err f) old mid new none own = tt

pub none_added : (old new : Handled) → made_of new ≡ made_of old → AddsSome (made_of old) (made_of new)
none_added old new same = ([], same ∙ sym (append-nil (made_of old)), tt)

pub own_refused : (e : Event Block) (r : Result (Reply Block) (CallFault (Event Block))) (old mid new : Handled)
    → made_of mid ≡ made_of old → IfErr r (λ f. f ≡ OutOfMemory e) → OnErr r (new ≡ mid)
    → IfErr r (λ f. (event_of f ≡ e) × AddsSome (made_of old) (made_of new))
own_refused e (Ok x) old mid new none back is = tt
own_refused e (Err f) old mid new none back is = (
  ap (λ (g : CallFault (Event Block)). event_of g) back,
  none_added old new (ap (λ (h : Handled). made_of h) is ∙ none),
)
