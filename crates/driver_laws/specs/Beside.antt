-- A driver whose author makes any other calls through the same `Nic` alongside it, such as the calls of a second
-- driver.
use Rattle.std.specs.Prelude.{[], ◌++◌, ◌<◌, ◌∷◌, ◌≡◌, ◌≢◌, ◌⊎◌, Bool, List, ℕ, length}
use Rattle.driver_laws.specs.{Harmless.AddsHarmless, Retagged.AreSame}
use Rattle.driver_laws.specs.StartPrelude.{AreEvents, AtPort, Call, Entry, IsLegal, IsSound, LeavesAloneFrom, Numbers}
use Rattle.driver_laws.specs.StartPrelude.{Running, State, Up, Watched, accepted_of, bytes_of, calls_of, delivered}
use Rattle.driver_laws.specs.StartPrelude.{entries_in, halves_of, handed_of, leads_to, marked_entries, sent_since}
use Rattle.driver_laws.specs.{Life.IsLife, Looks.EndsAt, Prelude.BeforeLast, Prelude.HasGround, Waits.Waits}
use Rattle.driver_laws.specs.Course.{Course, IsAllSent, IsHandedInOrder, IsSentInOrder}
use Rattle.driver_laws.specs.Reported.{Drove, HasNoneOut, IsReported, LooksInVain, Moment, last}
use Rattle.pmd_driver.specs.{Life.KeepsHalves, PmdAccess.Begun.From, PmdAccess.Begun.began_handled}
use Rattle.pmd_driver.specs.PmdAccess.{Begun.began_in_hand, Made.InHand, Scheduled.Handled}
use Rattle.pmd_driver.specs.{PmdAccess.Scheduled.own_calls, Started.HasStarted}

-- A legal history of a sound device in any initial state, and the retagged form of that history. The retagged form
-- contains the same calls, but the calls that the driver's author made alongside the driver carry another pass's tag.
pub record WasReported (origin : State) (h g : List Entry) : Type 0 where
  pub sound : IsSound origin
  pub events : AreEvents h
  pub legal : IsLegal origin h
  pub same : AreSame h g

-- The retagged history leaves the queue alone. So after the first entry of the driver's pass, the author's calls write
-- no row of the queue and no setting, and don't reset the queue's pool. They lend, take and poke no block that the
-- driver itself lends.
pub record IsRetagged (w : Watched) (origin : State) (h g : List Entry) : Type 0 where
  pub small : w.queue < 128
  pub vfs : w.vfs ≡ origin.vfs
  pub was : WasReported origin h g
  pub alone : LeavesAloneFrom w origin g

-- How one moment of a running driver follows another, and which calls were the driver's own by then. In the first case
-- (`DroveBy`), there was a call to `rx`, `tx`, `reap`, `rx_burst` or `tx_burst`, as its clause `drives` says; all calls
-- that were added are the driver's own. In the second case (`KeepsBy`), there were any calls of the author, through any
-- `Nic`, with at most one call to `packet` or `release`, as its clause `halves` says. In the second case, the `Nic`'s
-- record of its calls may start fresh, for example if a `Direct` is finished and another one is created.

abbrev pub DroveBy : Moment → List Call → Moment → List Call → Type 0
DroveBy m own n then = Drove m n × (since : List Call) × (n.made ≡ m.made ++ since) × (then ≡ own ++ since)

abbrev pub KeepsBy : Moment → List Call → Moment → List Call → Type 0
KeepsBy m own n then = KeepsHalves m.driver.rings n.driver.rings × (then ≡ own)

abbrev pub FollowsBy : Moment → List Call → Moment → List Call → Type 0
FollowsBy m own n then = DroveBy m own n then ⊎ KeepsBy m own n then

abbrev pub AllFollowBy : Moment → List Call → List Moment → List Call → Type 0
AllFollowBy m own [] then = then ≡ own
AllFollowBy m own (n ∷ later) then = (next : List Call) × FollowsBy m own n next × AllFollowBy n next later then

-- A `start` brought the driver up, as its clause `started` says, and the other moments follow the moment when the start
-- returned. The driver's own calls are the calls of its start and its calls since then. In the retagged history, other
-- calls of its pass (`ahead`) may precede these. They need not be the calls that the pass had made according to the
-- start's report (`old`).
pub record IsReportedBy (q : AtPort) (size frame : ℕ) (old : List Call) (a : Numbers) (m : Moment) (later : List Moment)
    (ahead own : List Call) : Type 0 where
  pub started : HasStarted q size frame old a m.made m.driver
  -- The calls of the start, and the first of these calls, up to the start's first access.
  pub start : List Call
  pub made : m.made ≡ old ++ start
  pub first : List Call
  pub access : started.2.receive.quiet.0 ≡ old ++ first
  pub since : AllFollowBy m (ahead ++ start) later own

-- A driver that is reported in this way, over a retagged history. Just before the driver's first access, its port and
-- queue number identify the watched queue, and the device's frame limit is the driver's packet limit.
pub record Beside : Type 0 where
  pub course : Course
  pub open course use *
  pub g : List Entry
  pub m : Moment
  pub later : List Moment
  pub ahead : List Call
  pub own : List Call
  pub retagged : IsRetagged w origin h g
  pub reported : IsReportedBy q size frame old a m later ahead own
  pub ground : BeforeLast w origin g (ahead ++ reported.first) (HasGround w.queue q frame)

-- The last moment of this driver.
abbrev pub now : Beside → Moment
now x = last x.m x.later

-- In the retagged history, the pass has made exactly the driver's own calls up to that moment.
abbrev pub IsReportedBeside : Beside → Type 0
IsReportedBeside x = calls_of x.w.pass x.g ≡ x.own

-- The same moments, each with only the driver's own calls. The driver's state at each moment is unchanged.
abbrev pub by_own : List Call → Moment → Moment
by_own own m = record m { made = own }

pub record IsReportedAgain (q : AtPort) (size frame : ℕ) (old : List Call) (a : Numbers) (m : Moment)
    (later : List Moment)
    (ahead own : List Call) (x : IsReportedBy q size frame old a m later ahead own) : Type 0 where
  pub others : List Moment
  pub reported : IsReported q size frame ahead a (by_own (ahead ++ x.start) m) others
  pub access : reported.started.2.receive.quiet.0 ≡ ahead ++ x.first
  pub ends : last (by_own (ahead ++ x.start) m) others ≡ by_own own (last m later)

-- It follows that all laws about what a driver's calls report apply to the retagged history.
abbrev pub OwnAreReported : Type 0
OwnAreReported =
    (q : AtPort) (size frame : ℕ) (old : List Call) (a : Numbers) (m : Moment) (later : List Moment)
    (ahead own : List Call) (x : IsReportedBy q size frame old a m later ahead own) →
    IsReportedAgain q size frame old a m later ahead own x

-- All laws of a life apply too, because the driver's own calls form a life over the retagged history.

abbrev pub again : Beside → Course
again x = record x.course { h = x.g; old = x.ahead }

abbrev pub ReportedIsLived : Type 0
ReportedIsLived =
    (x : Beside) →
    (r : Running) × ((now x).driver.rings ≡ Up r)
    × IsLife (again x) (x.ahead ++ x.reported.start) x.reported.started.0 x.own (halves_of r)

-- What the driver handed out is a prefix of what was delivered.
abbrev pub HandedIsPrefix : Type 0
HandedIsPrefix =
    (x : Beside) → IsReportedBeside x → IsHandedInOrder x.course (handed_of (now x).driver.rings)

-- What was sent is a prefix of what the driver accepted, and all of it if no packet is outstanding.

abbrev pub SentIsPrefix : Type 0
SentIsPrefix =
    (x : Beside) → IsReportedBeside x → IsSentInOrder x.course (accepted_of (now x).driver.rings)

abbrev pub IdleIsAllSent : Type 0
IdleIsAllSent =
    (x : Beside) → IsReportedBeside x → HasNoneOut (now x).driver.rings →
    IsAllSent x.course (accepted_of (now x).driver.rings)

-- After the last moment, the driver's next call made the calls in `since`. In the retagged history, the last of these
-- calls is at some entry, before which the pass made exactly the driver's other own calls. Any entries may follow.
pub record IsCalledBeside (x : Beside) (n : Moment) : Type 0 where
  pub since : List Call
  pub made : n.made ≡ (now x).made ++ since
  pub look : EndsAt x.w.pass x.g (x.own ++ since)

-- If that call polls in vain, what the driver had handed out is everything delivered before the entry of the call's
-- last poll. What was delivered is counted over the original history's entries that correspond to the retagged ones.
abbrev pub NoneIsAllBefore : Type 0
NoneIsAllBefore =
    (x : Beside) (n : Moment) (called : IsCalledBeside x n) → LooksInVain (now x) n →
    (early : List Entry) → AreSame early called.look.before →
    handed_of (now x).driver.rings ≡ delivered x.w.queue x.origin early

-- What the driver had handed out is also everything delivered before the call's own first event, whatever the author
-- did before that event.
abbrev pub NoneIsAllAtFirst : Type 0
NoneIsAllAtFirst =
    (x : Beside) (n : Moment) (called : IsCalledBeside x n) → LooksInVain (now x) n →
    (before more early : List Entry) → before ++ more ≡ called.look.before →
    AddsHarmless x.own (calls_of x.w.pass before) → AreSame early before →
    handed_of (now x).driver.rings ≡ delivered x.w.queue x.origin early

-- If that call ends with a packet outstanding, some of what the driver had accepted had not yet been sent when the
-- call's first event occurred.
abbrev pub WaitingIsNotAll : Type 0
WaitingIsNotAll =
    (x : Beside) (n : Moment) (called : IsCalledBeside x n) → Waits (now x) n →
    (before more early : List Entry) → before ++ more ≡ called.look.before →
    AddsHarmless x.own (calls_of x.w.pass before) → AreSame early before →
    bytes_of (accepted_of (now x).driver.rings) ≢ sent_since x.w.queue x.origin [] early

-- The entries `es` follow a history, and their retagged form `again` follows the retagged history. In the retagged
-- entries, pass 0 made the given calls. The whole history leads to the given device.
pub record GoesOn (origin : State) (before reported es again : List Entry) (calls : List Call) (device : State) :
    Type 0 where
  pub was : WasReported origin (before ++ es) (reported ++ again)
  pub made : calls_of 0 (reported ++ again) ≡ calls_of 0 reported ++ calls
  pub leads : leads_to origin (before ++ es) ≡ device

-- The calls through a `Direct` or an `Interleaved` continue a retagged history. Marks say which of the calls are the
-- driver's own; an `Interleaved` has further marks for its own and foreign calls. The retagged history may continue in
-- this manner through several `Direct`s or `Interleaved`s in succession. If two drivers share one device, each driver
-- has separate marks, according to which the other driver's calls aren't its own.

abbrev pub DirectIsRetagged : Type 0
DirectIsRetagged =
    (origin : State) (before reported : List Entry) (d : InHand) (own : List Bool) → length own ≡ length d.calls →
    WasReported origin before reported → began_in_hand d (From (leads_to origin before)) →
    GoesOn origin before reported (entries_in d.calls) (marked_entries d.calls own) (own_calls d.calls own) d.device

abbrev pub InterleavedIsRetagged : Type 0
InterleavedIsRetagged =
    (origin : State) (before reported : List Entry) (i : Handled) (own : List Bool) → length own ≡ length i.calls →
    length i.own ≡ length i.calls → WasReported origin before reported →
    began_handled i (From (leads_to origin before)) →
    GoesOn origin before reported (marked_entries i.calls i.own) (marked_entries i.calls own) (own_calls i.calls own)
    i.device
