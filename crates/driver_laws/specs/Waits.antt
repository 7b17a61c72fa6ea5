-- A driver call that ends with a packet outstanding.
use Rattle.std.specs.Prelude.{[], ◌++◌, ◌≡◌, ◌≢◌, List}
use Rattle.driver_laws.specs.Harmless.{AddsHarmless}
use Rattle.driver_laws.specs.StartPrelude.{Call, Entry, Sender, WhereUp, accepted_of, bytes_of, calls_of, sent_since}
use Rattle.pmd_driver.specs.PmdTx.Plays.{LooksLast}
use Rattle.driver_laws.specs.{Life.Life, Looks.EndsAt, Reported.Moment, Reported.Reported, Reported.now}

-- After a life, one driver call accepted no packet. Its last event, at an entry of the history, polled the oldest
-- outstanding packet, which wasn't done.
pub record LooksAtWaiting (x : Life) (new : List Call) (v : Sender) : Type 0 where
  pub looks : LooksLast x.made x.k.transmit new v
  pub look : EndsAt x.w.pass x.h new

-- When the call's own first event occurred, some of what the driver had accepted had not yet been sent. This is true
-- even if harmless calls come before that event.
abbrev pub WaitingIsNotAllBefore : Type 0
WaitingIsNotAllBefore =
    (x : Life) (new : List Call) (v : Sender) (looked : LooksAtWaiting x new v) (before more : List Entry) →
    before ++ more ≡ looked.look.before → AddsHarmless x.made (calls_of x.w.pass before) →
    bytes_of x.k.transmit.accepted ≢ sent_since x.w.queue x.origin [] before

-- A call to `reap` returned and reported that a packet is still outstanding, as `waits` in its clause `reaped` says.
abbrev pub Waits : Moment → Moment → Type 0
Waits m n =
    WhereUp m.driver.rings n.driver.rings (λ r s. LooksLast m.made r.transmit n.made s.transmit)

-- After the last moment, a call ends with a packet outstanding. The call's last poll is at an entry of the history.
pub record IsReportedToWait (x : Reported) (n : Moment) : Type 0 where
  pub waits : Waits (now x) n
  pub look : EndsAt x.w.pass x.h n.made

-- When the call's own first event occurred, some of what the driver had accepted had not yet been sent. This is true
-- even if harmless calls come before that event.
abbrev pub WaitingIsNotAllAsReported : Type 0
WaitingIsNotAllAsReported =
    (x : Reported) (n : Moment) (waiting : IsReportedToWait x n) (before more : List Entry) →
    before ++ more ≡ waiting.look.before → AddsHarmless (now x).made (calls_of x.w.pass before) →
    bytes_of (accepted_of (now x).driver.rings) ≢ sent_since x.w.queue x.origin [] before
