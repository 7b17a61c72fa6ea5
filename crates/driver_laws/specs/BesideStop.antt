-- A driver that is stopped, and whose author made any other calls alongside it.
use Rattle.std.specs.Prelude.{◌++◌, ◌≡◌, List}
use Rattle.driver_laws.specs.StartPrelude.{Call, Entry, accepted_of, calls_of, handed_of}
use Rattle.driver_laws.specs.Retagged.{AreSame}
use Rattle.driver_laws.specs.{Beside.Beside, Beside.now, Course.IsHandedInOrder, Course.IsSentInOrder}
use Rattle.driver_laws.specs.Prelude.{Ends, EndsOnceOff, IsSilent, TakesOnceOff}

-- In the retagged history, the pass made the driver's own calls up to the last moment, followed by some or all calls of
-- its stop. `new` contains all calls that had been made when the stop returned.
pub record IsStoppedBeside (x : Beside) (new : List Call) : Type 0 where
  pub ends : Ends x.q (now x).made new
  pub since : List Call
  pub rest : List Call
  pub made : new ≡ ((now x).made ++ since) ++ rest
  pub calls : calls_of x.w.pass x.g ≡ x.own ++ since

-- What the driver handed out is a prefix of what was delivered over the whole history.
abbrev pub HandedIsPrefix : Type 0
HandedIsPrefix =
    (x : Beside) (new : List Call) → IsStoppedBeside x new → IsHandedInOrder x.course (handed_of (now x).driver.rings)

-- If the stop takes blocks back only after both sides have read as off, what was sent is a prefix of what the driver
-- accepted.
abbrev pub SentIsPrefix : Type 0
SentIsPrefix =
    (x : Beside) (new : List Call) → IsStoppedBeside x new → TakesOnceOff x.q (now x).made new →
    IsSentInOrder x.course (accepted_of (now x).driver.rings)

-- After the stop's calls so far have switched both sides off, nothing more is delivered or sent on the queue.
abbrev pub SilentOnceOff : Type 0
SilentOnceOff =
    (x : Beside) (new : List Call) (stopped : IsStoppedBeside x new)
    (y : EndsOnceOff x.q (now x).made ((now x).made ++ stopped.since)) (off : List Call) →
    y.off ≡ (now x).made ++ off →
    (done rest early : List Entry) → done ++ rest ≡ x.g → calls_of x.w.pass done ≡ x.own ++ off →
    AreSame early done →
    IsSilent x.w x.origin x.h early
