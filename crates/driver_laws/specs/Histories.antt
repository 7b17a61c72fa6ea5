-- What a driver returns and what it sends, over histories that leave its queue alone.
use Rattle.std.specs.Prelude.{[], ⊤, ◌++◌, ◌==◌, ◌∷◌, ◌≡◌, Bool, IsTrue, List, None, Some, false, true}
use Rattle.pmd_driver.specs.DeviceLock.Alone.{has_begun}
use Rattle.driver_laws.specs.StartPrelude.{AllOwn, Blocks, Doer, Elsewhere, Entry, FindsNone, Halves, IsUp}
use Rattle.driver_laws.specs.StartPrelude.{LeavesBlocks}
use Rattle.driver_laws.specs.StartPrelude.{LeavesRegisters, Sends, ShowsNone, State, Watched, after, bytes_of, calls_of}
use Rattle.driver_laws.specs.StartPrelude.{delivered, is_neither, leads_to, lent_by, mode_in, pieces_since, played_by}
use Rattle.driver_laws.specs.StartPrelude.{records_of, sent_in, sent_since}
use Rattle.driver_laws.specs.{Agreeing.AreLent, Agreeing.BothAgree, Along.IsAlong}
use Rattle.ring_laws.specs.Delivered as receive
use Rattle.ring_laws.specs.ReceiveUp as receiving
use Rattle.ring_laws.specs.Laws as transmit

-- Which half an entry belongs to (its doer), and the doers that remain after that entry. The entries of the driver's
-- pass belong to the doers in turn; entries of other passes belong to neither half.
abbrev pub doer_of : Bool → List Doer → Doer
doer_of false doers = Sends Elsewhere
doer_of true [] = Sends Elsewhere
doer_of true (d ∷ doers) = d

abbrev pub doers_after : Bool → List Doer → List Doer
doers_after false doers = doers
doers_after true [] = []
doers_after true (d ∷ doers) = doers

-- The calls of the driver's pass that belong to neither half leave the queue and its blocks alone, as other passes do.
abbrev pub OthersLeaveAlone : Watched → Blocks → State → List Doer → List Entry → Type 0
OthersLeaveAlone w mine s doers [] = ⊤
OthersLeaveAlone w mine s doers (e ∷ es) =
    (e.pass ≡ w.pass → IsTrue (is_neither (doer_of true doers))
    → LeavesRegisters w (mode_in s.registers) e.event × LeavesBlocks mine e.event)
    × OthersLeaveAlone w mine (after s e.event) (doers_after (e.pass == w.pass) doers) es

-- A history that leaves the queue alone, in two parts: `start` and `rest`. At the end of `start`, the queue's receive
-- side has been enabled and is up, no piece has been written since, and the device agrees with both halves. In `rest`,
-- each entry of the driver's pass belongs to one of the halves or leaves the queue alone.
pub record IsDriven (w : Watched) (origin : State) (start rest : List Entry) (h : Halves) (doers : List Doer) :
    Type 0 where
  pub along : IsAlong w origin (start ++ rest)
  pub begun : IsTrue (has_begun w.pass start)
  pub on : pieces_since w.queue origin None start ≡ Some []
  pub up : receiving.IsUp w.queue (leads_to origin start)
  pub agree : BothAgree w.queue (leads_to origin start) [] [] h
  pub lent : AreLent (lent_by w.pass (start ++ rest)) h
  pub own : AllOwn h doers (calls_of w.pass rest)
  pub others : OthersLeaveAlone w (lent_by w.pass (start ++ rest)) (leads_to origin start) doers rest

-- What the driver returned is a prefix of what was delivered since the queue's receive side was last enabled.
abbrev pub HandedIsPrefix : Type 0
HandedIsPrefix =
    (w : Watched) (origin : State) (start rest : List Entry) (h : Halves) (doers : List Doer) →
    IsDriven w origin start rest h doers →
    receive.IsPrefixOf (played_by h doers (calls_of w.pass rest)).receive.handed
    (delivered w.queue origin (start ++ rest))

-- If the next poll finds its slot not done, everything delivered was taken: it was returned, or is complete and will be
-- returned when the tail advances. If, in addition, no packet is complete, everything was returned.

abbrev pub NoneIsAllTaken : Type 0
NoneIsAllTaken =
    (w : Watched) (origin : State) (start rest : List Entry) (h : Halves) (doers : List Doer) →
    IsDriven w origin start rest h doers →
    let v = (played_by h doers (calls_of w.pass rest)).receive in
    ShowsNone (leads_to origin (start ++ rest)) v →
    v.handed ++ records_of v.whole ≡ delivered w.queue origin (start ++ rest)

abbrev pub NoneIsAll : Type 0
NoneIsAll =
    (w : Watched) (origin : State) (start rest : List Entry) (h : Halves) (doers : List Doer) →
    IsDriven w origin start rest h doers →
    FindsNone (leads_to origin (start ++ rest)) (played_by h doers (calls_of w.pass rest)).receive →
    (played_by h doers (calls_of w.pass rest)).receive.handed
    ≡ delivered w.queue origin (start ++ rest)

-- Suppose that the next poll finds its slot not done and no packet is complete, and that nothing has been returned
-- since an earlier point of the history. Then everything delivered before that point was returned by then.
abbrev pub NoneIsAllBefore : Type 0
NoneIsAllBefore =
    (w : Watched) (origin : State) (start before rest : List Entry) (h : Halves) (early doers : List Doer) →
    IsDriven w origin start before h early → IsDriven w origin start (before ++ rest) h doers →
    FindsNone (leads_to origin (start ++ (before ++ rest)))
    (played_by h doers (calls_of w.pass (before ++ rest))).receive →
    (played_by h doers (calls_of w.pass (before ++ rest))).receive.handed
    ≡ (played_by h early (calls_of w.pass before)).receive.handed →
    (played_by h early (calls_of w.pass before)).receive.handed
    ≡ delivered w.queue origin (start ++ before)

-- What was sent on the queue in `rest` is a prefix of what the driver accepted, and all of it if no packet is
-- outstanding.
abbrev pub SentIsPrefix : Type 0
SentIsPrefix =
    (w : Watched) (origin : State) (start rest : List Entry) (h : Halves) (doers : List Doer) →
    IsDriven w origin start rest h doers →
    transmit.IsPrefixOf (sent_in w.queue (leads_to origin start) rest)
    (bytes_of (played_by h doers (calls_of w.pass rest)).transmit.accepted)

abbrev pub IdleIsAllSent : Type 0
IdleIsAllSent =
    (w : Watched) (origin : State) (start rest : List Entry) (h : Halves) (doers : List Doer) →
    IsDriven w origin start rest h doers →
    (played_by h doers (calls_of w.pass rest)).transmit.outstanding ≡ [] →
    bytes_of (played_by h doers (calls_of w.pass rest)).transmit.accepted
    ≡ sent_in w.queue (leads_to origin start) rest

-- If the queue's transmit side is up at the end of `start`, everything sent in `rest` was sent since that side was last
-- enabled.
abbrev pub CountedWhereUp : Type 0
CountedWhereUp =
    (w : Watched) (origin : State) (start rest : List Entry) (h : Halves) (doers : List Doer) →
    IsDriven w origin start rest h doers → IsUp w.queue (leads_to origin start) →
    sent_since w.queue origin [] (start ++ rest)
    ≡ sent_since w.queue origin [] start ++ sent_in w.queue (leads_to origin start) rest
