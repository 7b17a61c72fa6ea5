-- The state of a new device when a driver starts.
use Rattle.std.specs.Prelude.{List, ℕ}
use Rattle.driver_laws.specs.{Prelude.BeforeLast, Prelude.BeforeNext, Reported.IsReported, Reported.Moment}
use Rattle.driver_laws.specs.StartPrelude.{AtPort, Call, Entry, Numbers, State, Watched, leads_to, new_state}
use Rattle.pmd.specs.Starts.{Starts}

-- The property holds for a new device's state just before the driver's first entry.
abbrev pub JustBefore : (vfs fifo tag : ℕ) → List Call → List Entry → (State → Type 0) → Type 0
JustBefore vfs fifo tag old h P = (x : Starts tag old h) → P (leads_to (new_state vfs fifo) x.before)

-- The property holds just before the driver's first entry. It also holds just before the next call that the pass makes
-- after these calls, with which a start begins, and for every driver that started there.
pub record HoldsAtFirst (w : Watched) (fifo : ℕ) (old : List Call) (h : List Entry) (P : State → Type 0) : Type 0 where
  pub first : JustBefore w.vfs fifo w.pass old h P
  pub next : BeforeNext w (new_state w.vfs fifo) h old P
  pub started :
      (q : AtPort) (size frame : ℕ) (a : Numbers) (m : Moment) (later : List Moment)
      (reported : IsReported q size frame old a m later)
      → BeforeLast w (new_state w.vfs fifo) h reported.started.2.receive.quiet.0 P
