-- A driver's life as its calls report it: what the clauses of `start`, `rx`, `tx`, `reap`, `rx_burst`, `tx_burst`,
-- `packet` and `release` say about the driver, and about the calls that its pass made.
use Rattle.std.specs.Prelude.{[], ◌++◌, ◌∷◌, ◌≡◌, ◌⊎◌, List, ℕ, ⊤}
use Rattle.driver_laws.specs.Harmless.{AddsHarmless}
use Rattle.driver_laws.specs.StartPrelude.{AtPort, Call, Down, Entry, Numbers, Rings, Up, WhereUp, accepted_of}
use Rattle.driver_laws.specs.StartPrelude.{calls_of}
use Rattle.driver_laws.specs.StartPrelude.{delivered, handed_of}
use Rattle.driver_laws.specs.{Looks.EndsAt, Prelude.BeginsWell, Prelude.IsAlong}
use Rattle.driver_laws.specs.Course.{Course, IsAllSent, IsHandedInOrder, IsSentInOrder}
use Rattle.pmd_driver.specs.{Driver.Driver, Life.KeepsHalves, Life.RunsOn, Started.HasStarted}
use Rattle.pmd_driver.specs.PmdRx.Plays as receiving

-- The driver, and the calls of its pass so far, after a call to the driver or to its `Nic` has returned.
pub record Moment : Type 0 where
  pub made : List Call
  pub driver : Driver

-- How one moment of a running driver follows another. Either there was a call to `rx`, `tx`, `reap`, `rx_burst` or
-- `tx_burst`, as its clause `drives` says. Or there was at most one call to `packet` or `release`, as its clause
-- `halves` says, alongside harmless calls through the same `Nic`. The arrival of a frame is an example of such a call.

abbrev pub Drove : Moment → Moment → Type 0
Drove m n = RunsOn m.made m.driver.rings n.made n.driver.rings

abbrev pub Keeps : Moment → Moment → Type 0
Keeps m n = KeepsHalves m.driver.rings n.driver.rings × AddsHarmless m.made n.made

abbrev pub Follows : Moment → Moment → Type 0
Follows m n = Drove m n ⊎ Keeps m n

-- `AllFollow`: each moment follows the one before it. `last`: the last moment.
abbrev pub AllFollow : Moment → List Moment → Type 0
AllFollow m [] = ⊤
AllFollow m (n ∷ later) = Follows m n × AllFollow n later

abbrev pub last : Moment → List Moment → Moment
last m [] = m
last m (n ∷ later) = last n later

-- A `start` brought the driver up, as its clause `started` says. The other moments follow the moment when the start
-- returned.
pub record IsReported (q : AtPort) (size frame : ℕ) (old : List Call) (a : Numbers) (m : Moment) (later : List Moment) :
    Type 0 where
  pub started : HasStarted q size frame old a m.made m.driver
  pub since : AllFollow m later

-- A reported driver, over a legal history of a sound device that leaves the queue alone.
pub record Reported : Type 0 where
  pub course : Course
  pub open course use *
  pub m : Moment
  pub later : List Moment
  pub along : IsAlong w origin h
  pub reported : IsReported q size frame old a m later
  pub begins : BeginsWell w origin h q size frame old a m.made reported.started.0 reported.started.2

-- The last moment of this driver.
abbrev pub now : Reported → Moment
now x = last x.m x.later

-- In the history, the pass has made exactly the calls that it had made at that moment.
abbrev pub IsReportedOf : Reported → Type 0
IsReportedOf x = calls_of x.w.pass x.h ≡ (now x).made

-- What the driver handed out is a prefix of what was delivered.
abbrev pub HandedIsPrefix : Type 0
HandedIsPrefix =
    (x : Reported) → IsReportedOf x → IsHandedInOrder x.course (handed_of (now x).driver.rings)

-- What was sent is a prefix of what the driver accepted, and all of it if no packet is outstanding, for example if
-- `reap` reports this.

abbrev pub SentIsPrefix : Type 0
SentIsPrefix =
    (x : Reported) → IsReportedOf x → IsSentInOrder x.course (accepted_of (now x).driver.rings)

abbrev pub HasNoneOut : Rings → Type 0
HasNoneOut (Up r) = r.transmit.outstanding ≡ []
HasNoneOut (Down h) = ⊥

abbrev pub IdleIsAllSent : Type 0
IdleIsAllSent =
    (x : Reported) → IsReportedOf x → HasNoneOut (now x).driver.rings →
    IsAllSent x.course (accepted_of (now x).driver.rings)

-- A call to `rx` returned none, or one to `rx_burst` returned 0 although packets were requested, as `none` in its
-- clause `received` says.
abbrev pub LooksInVain : Moment → Moment → Type 0
LooksInVain m n =
    WhereUp m.driver.rings n.driver.rings (λ r s. receiving.LooksInVain m.made r.receive n.made s.receive)

-- After the last moment, a call polls in vain. The call's last poll is at an entry of the history.
pub record IsReportedToLook (x : Reported) (n : Moment) : Type 0 where
  pub looks : LooksInVain (now x) n
  pub look : EndsAt x.w.pass x.h n.made

-- What the driver had handed out is everything delivered before the entry of the call's last poll.
abbrev pub NoneIsAllBefore : Type 0
NoneIsAllBefore =
    (x : Reported) (n : Moment) (looked : IsReportedToLook x n) →
    handed_of (now x).driver.rings ≡ delivered x.w.queue x.origin looked.look.before

-- What the driver had handed out is also everything delivered before the call's own first event, even if harmless calls
-- come before that event.
abbrev pub NoneIsAllAtFirst : Type 0
NoneIsAllAtFirst =
    (x : Reported) (n : Moment) (looked : IsReportedToLook x n) (before more : List Entry) →
    before ++ more ≡ looked.look.before → AddsHarmless (now x).made (calls_of x.w.pass before) →
    handed_of (now x).driver.rings ≡ delivered x.w.queue x.origin before
