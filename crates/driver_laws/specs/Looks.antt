-- A driver call that polls in vain, whether for one packet or for several: the call finds no packet that is complete.
use Rattle.std.specs.Prelude.{ℕ, ◌≡◌, List, [], ◌∷◌, ◌++◌}
use Rattle.driver_laws.specs.StartPrelude.{call_in, calls_of, Call, Entry, Receive, delivered}
use Rattle.pmd_driver.specs.PmdRx.Plays as receiving
use Rattle.driver_laws.specs.Harmless.{AddsHarmless}
use Rattle.driver_laws.specs.Life.{Life}

-- An entry of a history that contains the last of the calls. Before this entry, the pass has made exactly the other
-- calls.
pub record EndsAt (pass : ℕ) (h : List Entry) (calls : List Call) : Type 0 where
  pub before : List Entry
  pub entry : Entry
  pub following : List Entry
  pub all : before ++ entry ∷ following ≡ h
  pub made : calls_of pass before ++ call_in entry ∷ [] ≡ calls

-- If the pass has made some calls, and perhaps more after them, the history has such an entry for the last of these
-- calls.
abbrev pub CallsEnd : Type 0
CallsEnd =
    (pass : ℕ) (h : List Entry) (calls more : List Call) (c : Call) →
    calls_of pass h ≡ (calls ++ c ∷ []) ++ more → EndsAt pass h (calls ++ c ∷ [])

-- After a life, one driver call polled the slots of a packet. Its last poll, at an entry of the history, found a slot
-- not done.
pub record LooksInVain (x : Life) (new : List Call) (v : Receive) : Type 0 where
  pub looks : receiving.LooksInVain x.made x.k.receive new v
  pub look : EndsAt x.w.pass x.h new

-- What the driver had handed out is everything delivered before the entry of that last poll, whatever entries follow
-- it.
abbrev pub NoneIsAllBefore : Type 0
NoneIsAllBefore =
    (x : Life) (new : List Call) (v : Receive) (looked : LooksInVain x new v) →
    x.k.receive.handed ≡ delivered x.w.queue x.origin looked.look.before

-- What the driver had handed out is also everything delivered before the call's own first event, even if harmless calls
-- come before that event.
abbrev pub NoneIsAllAtFirst : Type 0
NoneIsAllAtFirst =
    (x : Life) (new : List Call) (v : Receive) (looked : LooksInVain x new v) (before more : List Entry) →
    before ++ more ≡ looked.look.before → AddsHarmless x.made (calls_of x.w.pass before) →
    x.k.receive.handed ≡ delivered x.w.queue x.origin before
