-- A driver's start doesn't fail with `DeviceFault` at or after its first event, whatever other calls its author makes
-- before and alongside it.
use Rattle.std.specs.Prelude.{◌++◌, ◌≡◌, ◌≢◌, List, ℕ}
use Rattle.driver_laws.specs.StartPrelude.{AreUp, AtPort, Call, DeviceFault, Entry, Numbers, Running, StartRefused}
use Rattle.driver_laws.specs.StartPrelude.{StopsStarting, calls_of}
use Rattle.driver_laws.specs.Asked.{OthersLendNone, asked_of}
use Rattle.driver_laws.specs.{Beside.IsRetagged, Course.Course, Faultless.IsQuietAndFresh}
use Rattle.driver_laws.specs.Prelude.{BeforeNext, FaultsFilling}

-- A start that brought both rings up added calls to those already made, including its first access.
abbrev pub StartAdds : Type 0
StartAdds =
    (q : AtPort) (size frame : ℕ) (old : List Call) (a : Numbers) (new : List Call) (r : Running)
    (up : AreUp q size frame old a new r) →
    (start : List Call) × (first : List Call) × (new ≡ old ++ start) × (up.receive.quiet.0 ≡ old ++ first)

-- A legal history that leaves the queue alone in its retagged form. In the retagged form, a start made the calls
-- `since`, perhaps after other calls of its pass and perhaps followed by more. Just before the start's first access,
-- the driver began well and both sides were off with no enable request pending. At that point, the waiting frames fit
-- the driver's packets, and the blocks of the arena that the pass tries to lend weren't lent. After the pass's first
-- entry, neither another pass nor the author tries to lend any of these blocks.
pub record BeginsBeside : Type 0 where
  pub course : Course
  pub open course use *
  pub g : List Entry
  pub new : List Call
  pub ahead : List Call
  pub retagged : IsRetagged w origin h g
  pub begins : BeforeNext w origin g ahead (IsQuietAndFresh w.queue q frame (asked_of w a g))
  pub others : OthersLendNone w.pass (asked_of w a g) g
  pub since : List Call
  pub made : new ≡ old ++ since
  pub more : List Call
  pub all : calls_of w.pass g ≡ (ahead ++ since) ++ more

-- No start of this kind fails with `DeviceFault` while it fills its receive ring.
abbrev pub NoFillingFindsFault : Type 0
NoFillingFindsFault = (x : BeginsBeside) → ¬ FaultsFilling x.q x.size x.frame x.old x.a x.new

-- No start of this kind fails with `DeviceFault` at or after its first event.
abbrev pub NoStartFindsFault : Type 0
NoStartFindsFault =
    (x : BeginsBeside) (e : StartRefused) → StopsStarting x.q x.size x.frame x.old x.a x.new e → e.fault ≢ DeviceFault
