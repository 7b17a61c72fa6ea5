-- Lemmas: the calls to a device in hand form a history of the device, in which pass 0's calls come after the earlier
-- calls of other passes.
use Rattle.driver_laws.specs.StartPrelude.{entries_in}
use Rattle.driver_laws.proofs.Prelude.{LeadsTo, LeavesAloneFrom, List, State, [], after, ap, arith, calls_joined}
use Rattle.driver_laws.proofs.Prelude.{calls_of, calls_other, common_steps, events-append, false, has_begun}
use Rattle.driver_laws.proofs.Prelude.{leads-append, leads_to, led, legal-append, refl, ℕ, ◌++◌, ◌<◌, ◌==◌, ◌∷◌, ◌≡◌}
use Rattle.driver_laws.proofs.{Beside.own_are, Closed.calls_stand, Faultless.made, Order.along_before, Prelude.Call}
use Rattle.driver_laws.proofs.{Prelude.Entry, Prelude.IsTrue, Prelude.new_sound, Prelude.new_state}
use Rattle.ring_laws.proofs.Alone.{new_is_left_alone}
use Rattle.driver_laws.specs.InHand.{IsClosed, IsHistoryAtLock, IsHistoryOf, WasMade, at_lock, in_hand}
use Rattle.driver_laws.specs.Closed.{UpTo}
use Rattle.pmd_driver.specs.DeviceLock.{Alone.LeavesAlone, Pass.PassValue}

history : (s : State) (queue : ℕ) (before h : List Entry) (calls : List Call) (device : State) → queue < 128
    → WasMade s before → LeadsTo (leads_to s before) h device → calls_of 0 h ≡ calls
    → LeavesAloneFrom (in_hand s queue) s (before ++ h) → IsHistoryOf s queue (before ++ h) calls device
history s queue before h calls device small was led made alone =
    grind (arith, common_steps, events-append, legal-append, calls_joined, leads-append)

-- The calls to a device in hand all belong to pass 0.

all_are : (calls : List Call) → calls_of 0 (entries_in calls) ≡ calls
all_are [] = refl
all_are (c ∷ calls) = ap (λ (l : List Call). c ∷ l) (all_are calls)

-- Lemmas: entries that all belong to the driver's pass leave the queue alone, however the queues are separated.

each_own : (calls : List Call) (b : List Entry) (e : Entry) (after : List Entry) → entries_in calls ≡ b ++ e ∷ after
    → e.pass ≡ 0
each_own [] [] e after is = cc
each_own [] (y ∷ b) e after is = cc
each_own (c ∷ calls) [] e after is = grind (arith, common_steps)
each_own (c ∷ calls) (y ∷ b) e after is = each_own calls b e after (cc)

-- Lemmas: none of the earlier entries belongs to the pass.

not_first : (x : Entry) (before : List Entry) → calls_of 0 (x ∷ before) ≡ [] → (x.pass == 0) ≡ false
not_first x before none = grind (arith, common_steps)

own_past : (before : List Entry) (calls : List Call) (b : List Entry) (e : Entry) (after : List Entry)
    → calls_of 0 before ≡ [] → before ++ entries_in calls ≡ b ++ e ∷ after → IsTrue (has_begun 0 b) → e.pass ≡ 0
own_past [] calls b e after none is begun = each_own calls b e after is
own_past (x ∷ before) calls [] e after none is begun = cc
own_past (x ∷ before) calls (y ∷ b) e after none is begun =
    grind (arith, common_steps, not_first, calls_other, own_past before calls b e after)

-- Lemmas about the calls of a pass to a shared device, up to a point in the closed history.

closed_before : (vfs fifo tag queue : ℕ) (h : List Entry) (ps : List PassValue) (calls : List Call) → queue < 128
    → IsClosed vfs fifo h ps → LeavesAlone (at_lock vfs tag queue) h → (u : UpTo tag h calls)
    → IsHistoryAtLock vfs fifo tag queue u.done calls
closed_before vfs fifo tag queue h ps calls small x alone u =
    let w = at_lock vfs tag queue in
    let new = new_sound vfs fifo x.device.0 x.device.1 x.device.2 in
    record {
      along = along_before w (new_state vfs fifo) u.done u.rest u.all (record {
        small = small;
        sound = new;
        vfs = refl;
        events = x.events;
        legal = x.legal;
        alone = new_is_left_alone w fifo h new x.events alone;
      });
      made = u.made;
    }

pub returns : Rattle.driver_laws.proofs.calls_in_hand_are_a_history.Goals.returns
returns c = record {
  direct = λ s queue before d small was began alone.
      history s queue before (entries_in d.calls) d.calls d.device small was began (all_are d.calls)
      (grind (arith, common_steps, own_past));
  interleaved = λ s queue before i small was began alone.
      history s queue before _ _ i.device small was began (own_are i.calls i.own) alone;
  stands = calls_stand;
  closed = λ vfs fifo queue h ps t small x alone.
      closed_before vfs fifo t.pass.tag queue h ps t.pass.calls small x alone;
}
