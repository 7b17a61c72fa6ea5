-- Before a poll that finds a packet waiting, some of what the driver accepted had not yet been sent.
use Rattle.std.specs.Prelude.{◌++◌, ◌≢◌, List}
use Rattle.ring_laws.specs.Laws.{FindsWaiting}
use Rattle.driver_laws.specs.Histories.{IsDriven}
use Rattle.driver_laws.specs.StartPrelude.{Doer, Entry, Halves, State, Watched, bytes_of, calls_of, leads_to, played_by}
use Rattle.driver_laws.specs.StartPrelude.{sent_in}

-- If the next poll finds the oldest outstanding packet not done, then at each earlier point, some of what the driver
-- has accepted had not yet been sent.
abbrev pub WaitingIsNotAll : Type 0
WaitingIsNotAll =
    (w : Watched) (origin : State) (start rest more : List Entry) (h : Halves) (doers : List Doer) →
    IsDriven w origin start (rest ++ more) h doers →
    FindsWaiting (leads_to origin (start ++ (rest ++ more)))
    (played_by h doers (calls_of w.pass (rest ++ more))).transmit →
    bytes_of (played_by h doers (calls_of w.pass (rest ++ more))).transmit.accepted
    ≢ sent_in w.queue (leads_to origin start) rest
