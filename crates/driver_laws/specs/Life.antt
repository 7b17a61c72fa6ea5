-- A driver's life over a history: a start that brought both rings up, followed by the calls of its halves.
use Rattle.std.specs.Prelude.{List}
use Rattle.driver_laws.specs.Harmless.{Leads}
use Rattle.driver_laws.specs.StartPrelude.{AreUp, Call, Halves, Running, halves_of}
use Rattle.driver_laws.specs.{Course.Course, Prelude.BeginsWell, Prelude.IsAlong}

-- The history is a legal history of a sound device and leaves the queue alone. When the pass had made the calls
-- `started`, the driver's start had returned with both rings up. Since then, the halves' calls and harmless calls led
-- the halves to `k`.
pub record IsLife (c : Course) (started : List Call) (r : Running) (made : List Call) (k : Halves) : Type 0 where
  pub along : IsAlong c.w c.origin c.h
  pub up : AreUp c.q c.size c.frame c.old c.a started r
  pub begins : BeginsWell c.w c.origin c.h c.q c.size c.frame c.old c.a started r up
  pub since : Leads started (halves_of r) made k

-- A driver's life, up to the point where its pass had made the calls `made`.
pub record Life : Type 0 where
  pub course : Course
  pub open course use *
  pub started : List Call
  pub r : Running
  pub made : List Call
  pub k : Halves
  pub is : IsLife course started r made k
