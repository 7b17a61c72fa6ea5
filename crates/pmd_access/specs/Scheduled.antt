-- A device in hand, and lists of foreign events. Each call first applies the next list.
use Rattle.std.specs.Prelude.{◌≡◌, ◌⊎◌, Bool, true, false, List, [], ◌∷◌, ◌++◌}
use Rattle.device_lock.specs.NicDevice.DmaArena.Block.{Block}
use Rattle.device_lock.specs.NicDevice.State.{State}
use Rattle.device_lock.specs.NicDevice.Step.{step_of}
use Rattle.device_lock.specs.NicDevice.declared.event.Event.{Event}
use Rattle.device_lock.specs.NicDevice.declared.event.Reply.{Reply}
use Rattle.device_lock.specs.declared.entry.Call.{Call}
use Rattle.device_lock.specs.Pass.{call_of}

-- A device, the calls made to it, whether each call is own, and the replies to the foreign calls.
pub record Handled : Type 0 where
  pub device : State
  pub calls : List Call
  pub own : List Bool
  pub foreign : List (Reply Block)

-- The calls that are marked as own.
abbrev pub own_calls : List Call → List Bool → List Call
own_calls [] own = []
own_calls (c ∷ calls) [] = []
own_calls (c ∷ calls) (true ∷ own) = c ∷ own_calls calls own
own_calls (c ∷ calls) (false ∷ own) = own_calls calls own

abbrev pub made_of : Handled → List Call
made_of h = own_calls h.calls h.own

-- The state after a call's own event.
abbrev pub after_own : Handled → Event Block → Handled
after_own h e = record h {
  device = (step_of h.device e).state;
  calls = h.calls ++ call_of e (step_of h.device e).reply ∷ [];
  own = h.own ++ true ∷ [];
}

-- The state after a foreign event, with its reply kept.
abbrev pub after_foreign : Handled → Event Block → Handled
after_foreign h e = record {
  device = (step_of h.device e).state;
  calls = h.calls ++ call_of e (step_of h.device e).reply ∷ [];
  own = h.own ++ false ∷ [];
  foreign = h.foreign ++ (step_of h.device e).reply ∷ [];
}

-- The state after these foreign events, in order.
abbrev pub after_list : Handled → List (Event Block) → Handled
after_list h [] = h
after_list h (e ∷ es) = after_list (after_foreign h e) es

-- The device with its calls, and the lists of foreign events not yet applied.
pub record Scheduled : Type 0 where
  pub handled : Handled
  pub lists : List (List (Event Block))

-- The foreign events that are applied before the next call; none if no list remains.
abbrev pub next_list : List (List (Event Block)) → List (Event Block)
next_list [] = []
next_list (es ∷ lists) = es

-- The lists after the next one.
abbrev pub later_lists : List (List (Event Block)) → List (List (Event Block))
later_lists [] = []
later_lists (es ∷ lists) = lists

-- The state after the next list, which is then removed.
abbrev pub with_list_made : Scheduled → Scheduled
with_list_made s = record {
  handled = after_list s.handled (next_list s.lists);
  lists = later_lists s.lists;
}

-- The state after the next list, followed by the call's own event.
abbrev pub after_call : Scheduled → Event Block → Scheduled
after_call s e = record {
  handled = after_own (after_list s.handled (next_list s.lists)) e;
  lists = later_lists s.lists;
}

-- The first foreign events of this list, possibly none, were applied; `rest` contains the later events.
abbrev pub IsMadeTo : Handled → List (Event Block) → Handled → List (Event Block) → Type 0
IsMadeTo old all new rest = (done : List (Event Block)) × (all ≡ done ++ rest) × (new ≡ after_list old done)

-- An event in the next list was refused. This event stays first in its list, followed by the later events.
abbrev pub StopsInList : Scheduled → Scheduled → Type 0
StopsInList old new =
    (refused : Event Block) × (rest : List (Event Block)) × (new.lists ≡ (refused ∷ rest) ∷ later_lists old.lists)
    × IsMadeTo old.handled (next_list old.lists) new.handled (refused ∷ rest)

-- Either an event in the next list was refused, or the whole list was applied and the call's own event was refused.
abbrev pub StopsCall : Scheduled → Scheduled → Type 0
StopsCall old new = StopsInList old new ⊎ (new ≡ with_list_made old)
