-- A driver's life, followed by calls of its stop.
use Rattle.std.specs.Prelude.{◌≡◌, List}
use Rattle.driver_laws.specs.StartPrelude.{AtPort, Call, Halted, PmdFault, calls_of}
use Rattle.driver_laws.specs.{Course.IsHandedInOrder, Course.IsSentInOrder, Life.Life, Prelude.Ends}
use Rattle.driver_laws.specs.{Prelude.TakesOnceOff}
use Rattle.pmd_driver.specs.{Stopping.StopFails, Stopping.Stops, declared.home.Home.Home}

-- After a life, the pass made only calls of a stop. None of them writes the queue's enable words with bit 25 set.
pub record IsStopping (x : Life) (new : List Call) : Type 0 where
  pub ends : Ends x.q x.made new
  pub calls : calls_of x.w.pass x.h ≡ new

-- Over the whole history, what the driver handed out is a prefix of what was delivered on its queue since the receive
-- side was last enabled.
abbrev pub HandedIsPrefix : Type 0
HandedIsPrefix =
    (x : Life) (new : List Call) → IsStopping x new → IsHandedInOrder x.course x.k.receive.handed

-- Suppose that the stop takes blocks back only after both sides have read as off. Then, over the whole history, what
-- was sent on the queue since its transmit side was last enabled is a prefix of what the driver accepted.
abbrev pub SentIsPrefix : Type 0
SentIsPrefix =
    (x : Life) (new : List Call) → IsStopping x new → TakesOnceOff x.q x.made new →
    IsSentInOrder x.course x.k.transmit.accepted

-- The calls of a driver's stop meet the definition of a stop's calls (`Ends`), as do the calls of a failed stop.

abbrev pub StopEnds : Type 0
StopEnds =
    (q : AtPort) (old : List Call) (h : Halted) (new : List Call) (home : Home) → Stops q old h new home →
    Ends q old new

abbrev pub FailedStopEnds : Type 0
FailedStopEnds =
    (f : PmdFault) (q : AtPort) (old : List Call) (h : Halted) (new : List Call) (left : Halted) →
    StopFails f q old h new left → Ends q old new

-- The calls of a stop, or of a failed stop, take blocks back only after both sides have read as off. If earlier calls
-- meet this condition, so do the earlier calls followed by those of the stop. An empty list of calls meets it too.

abbrev pub StopTakesOnceOff : Type 0
StopTakesOnceOff =
    (q : AtPort) (old mid : List Call) (h : Halted) (new : List Call) (home : Home) → Stops q mid h new home →
    TakesOnceOff q old mid → TakesOnceOff q old new

abbrev pub FailedStopTakesOnceOff : Type 0
FailedStopTakesOnceOff =
    (f : PmdFault) (q : AtPort) (old mid : List Call) (h : Halted) (new : List Call) (left : Halted) →
    StopFails f q mid h new left → TakesOnceOff q old mid → TakesOnceOff q old new

abbrev pub NoCallTakes : Type 0
NoCallTakes = (q : AtPort) (old : List Call) → TakesOnceOff q old old
