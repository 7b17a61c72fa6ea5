-- If nobody else tries to lend a block of a driver's arena that the driver tries to lend, neither the driver's start
-- nor its calls fail with `DeviceFault`.
use Rattle.std.specs.Prelude.{ℕ, IsTrue, IsFalse, List, ◌≡◌, ◌≢◌, ◌++◌, All, Option, Some, None, Result}
use Rattle.driver_laws.specs.StartPrelude.{has_block, is_own, State, Blocks, calls_of, Call, WhereUp, halves_of}
use Rattle.driver_laws.specs.StartPrelude.{Running}
use Rattle.driver_laws.specs.StartPrelude.{StartRefused, most_blocks, PmdFault, DeviceFault, Packet, AtPort, FitsBlocks}
use Rattle.driver_laws.specs.StartPrelude.{StopsStarting}
use Rattle.driver_laws.specs.Asked.{OthersLendNone, asked_of}
use Rattle.driver_laws.specs.Course.{Course}
use Rattle.driver_laws.specs.Prelude.{BeforeLast, IsAlong, IsQuiet, BeforeNext, FaultsFilling}
use Rattle.pmd_driver.specs.Apart.{FindsBy}
use Rattle.pmd_driver.specs.Bursts.{IsSendBurst, SendsWith}
use Rattle.driver_laws.specs.Reported.{Moment, Reported, now}

-- None of the blocks `own` is lent.
abbrev pub NoneLent : Blocks → State → Type 0
NoneLent own s = (number : ℕ) → IsTrue (own number) → IsFalse (has_block s.memory number)

-- Each frame that waits for the queue fits the maximum number of blocks in a driver's packet, and none of the blocks
-- `own` is lent.
pub record IsFresh (queue frame : ℕ) (own : Blocks) (s : State) : Type 0 where
  pub short : All (FitsBlocks queue (most_blocks frame)) s.waiting
  pub none : NoneLent own s

-- A call to `rx`, `tx`, `reap`, `rx_burst` or `tx_burst` ended with a reply that no healthy queue sends. The call's
-- clause `finds` says this of a call that returns `DeviceFault`.
abbrev pub FindsFault : Moment → Moment → Type 0
FindsFault m n =
    WhereUp m.driver.rings n.driver.rings
    (λ r s. FindsBy DeviceFault (is_own r.arena) m.made (halves_of r) n.made)

-- In the history, the pass made the calls up to moment `n`, and perhaps more after them. Just before the driver's first
-- access, the waiting frames fit the driver's packets, and the blocks of the driver's arena that the pass tries to lend
-- weren't lent. After the pass's first entry, no other pass tries to lend any of these blocks.
pub record IsReportedApart (x : Reported) (n : Moment) : Type 0 where
  pub fresh :
      BeforeLast x.w x.origin x.h x.reported.started.2.receive.quiet.0
      (IsFresh x.w.queue x.frame (asked_of x.w x.a x.h))
  pub others : OthersLendNone x.w.pass (asked_of x.w x.a x.h) x.h
  pub more : List Call
  pub made : calls_of x.w.pass x.h ≡ n.made ++ more

-- Over a history of this kind, no call to `rx`, `tx`, `reap`, `rx_burst` or `tx_burst` ends with a reply that no
-- healthy queue sends.
abbrev pub NoCallFindsFault : Type 0
NoCallFindsFault = (x : Reported) (n : Moment) → FindsFault (now x) n → ¬ IsReportedApart x n

-- The fault that a burst met, if any, whatever the burst returned. It met the fault while it made room, or with a
-- packet.
abbrev pub met_by : (failed : Option PmdFault) (given left : List Packet) (result : Result ℕ PmdFault) (old : List Call)
    (r : Running) (new : List Call) (s : Running) → SendsWith failed given left result old r new s → Option PmdFault
met_by None given left result old r new s sends = sends.met
met_by (Some f) given left result old r new s sends = Some f

-- A call to `tx_burst` met `DeviceFault`, as its clause `sent` says. It may nevertheless have returned the number of
-- packets accepted before the fault.
abbrev pub SendsAtFault : List Call → Running → List Call → Running → Type 0
SendsAtFault old r new s =
    (vacant : ℕ) × (given left : List Packet) × (result : Result ℕ PmdFault)
    × (x : IsSendBurst vacant given left result old r new s)
    × (met_by x.failed given left result x.made x.there new s x.sends ≡ Some DeviceFault)

abbrev pub MeetsFault : Moment → Moment → Type 0
MeetsFault m n = WhereUp m.driver.rings n.driver.rings (λ r s. SendsAtFault m.made r n.made s)

-- Over a history of this kind, no call to `tx_burst` meets `DeviceFault`, whatever it returns.
abbrev pub NoBurstMeetsFault : Type 0
NoBurstMeetsFault = (x : Reported) (n : Moment) → MeetsFault (now x) n → ¬ IsReportedApart x n

-- Both sides of the queue are off with no enable request pending, the waiting frames fit the driver's packets, and none
-- of the blocks `own` is lent.
abbrev pub IsQuietAndFresh : ℕ → AtPort → ℕ → Blocks → State → Type 0
IsQuietAndFresh queue q frame own s = IsQuiet queue q frame s × IsFresh queue frame own s

-- A legal history of a sound device that leaves the queue alone, in which a start made calls up to `new`, perhaps
-- followed by more. Just before the start's first access, the driver began well and both sides were off with no enable
-- request pending. At that point, the waiting frames fit the driver's packets, and the blocks of the arena that the
-- pass tries to lend weren't lent. After the pass's first entry, no other pass tries to lend any of these blocks.
pub record BeginsApart : Type 0 where
  pub course : Course
  pub open course use *
  pub new : List Call
  pub along : IsAlong w origin h
  pub begins : BeforeNext w origin h old (IsQuietAndFresh w.queue q frame (asked_of w a h))
  pub others : OthersLendNone w.pass (asked_of w a h) h
  pub more : List Call
  pub made : calls_of w.pass h ≡ new ++ more

-- No start of this kind fails with `DeviceFault` while it fills its receive ring.
abbrev pub NoFillingFindsFault : Type 0
NoFillingFindsFault = (x : BeginsApart) → ¬ FaultsFilling x.q x.size x.frame x.old x.a x.new

-- No start of this kind fails with `DeviceFault` at or after its first event.
abbrev pub NoStartFindsFault : Type 0
NoStartFindsFault =
    (x : BeginsApart) (e : StartRefused) → StopsStarting x.q x.size x.frame x.old x.a x.new e → e.fault ≢ DeviceFault
