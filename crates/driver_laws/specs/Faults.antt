-- A driver call that ends with a reply that no healthy queue sends.
use Rattle.std.specs.Prelude.{[], ◌++◌, ◌∷◌, ◌≡◌, List}
use Rattle.driver_laws.specs.Healthy.{IsUnshared}
use Rattle.driver_laws.specs.StartPrelude.{AllLendApart, AllOwn, Blocks, Call, Doer, Entry, FindsFault, Halves, State}
use Rattle.driver_laws.specs.StartPrelude.{Watched, calls_of, doers_other, played_by}

-- Which half makes each event of such a call. The first events are made by either half, and the device steps after them
-- by neither. The last event is made by the half that gets the reply that no healthy queue sends.
abbrev pub doers_of : (own : Blocks) (old : List Call) (h : Halves) (new : List Call) → FindsFault own old h new
    → List Doer
doers_of own old h new f = f.drives.drives.0 ++ (doers_other f.adds.0 ++ f.doer ∷ [])

-- Take a history that drives the halves and shares the blocks of `own` with no other pass, as `IsUnshared` says. No
-- driver call in this history ends with a reply that no healthy queue sends. The premise: The calls before the driver
-- call lend only what the driver's calls may lend.
abbrev pub NoFault : Type 0
NoFault =
    (w : Watched) (origin : State) (start rest more : List Entry) (h : Halves) (doers : List Doer) (own : Blocks)
    (old new : List Call) (f : FindsFault own old (played_by h doers (calls_of w.pass rest)) new) →
    AllOwn h doers (calls_of w.pass rest) → AllLendApart own h doers (calls_of w.pass rest) →
    new ≡ old ++ calls_of w.pass more →
    ¬ IsUnshared w origin start (rest ++ more) h
    (doers ++ doers_of own old (played_by h doers (calls_of w.pass rest)) new f) own
