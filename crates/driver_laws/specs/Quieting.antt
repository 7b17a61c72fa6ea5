-- A starting driver checks that both sides of its queue read as off, over a history that leaves the queue alone.
use Rattle.std.specs.Prelude.{◌&&◌, Bool, IsTrue, List, not, ℕ}
use Rattle.ring_laws.specs.Sides.{IsOff}
use Rattle.driver_laws.specs.StartPrelude.{AreMade, AtPort, Call, Entry, Rx, Side, State, Tx, Watched, both_quiet}
use Rattle.driver_laws.specs.StartPrelude.{lent_by}
use Rattle.driver_laws.specs.StartPrelude.{side_of}
use Rattle.driver_laws.specs.{Along.AtCalls, Along.BeforeLast, Along.IsAlong, Points.HasGround, Points.Point}
use Rattle.driver_laws.specs.Points.{Sides}

-- The driver's port and queue number identify the queue, and the device's frame limit is the driver's packet limit. `P`
-- holds for the queue's receive side, and `Q` for its transmit side.
pub record Both (P Q : Side → Type 0) (queue : ℕ) (q : AtPort) (frame : ℕ) (s : State) : Type 0 where
  pub ground : HasGround queue q frame s
  pub receive : P (side_of Rx queue s)
  pub transmit : Q (side_of Tx queue s)

-- Both sides are off with no enable request pending, and the driver's port, queue number and packet limit match the
-- device as in `Both`.
abbrev pub IsQuiet : ℕ → AtPort → ℕ → State → Type 0
IsQuiet queue q frame s = Both IsOff IsOff queue q frame s

-- At each point where the pass has made exactly the accesses by which both sides have read as off, both sides are off
-- with no enable request pending. The premise: Just before the first of these accesses, the driver's port and queue
-- number identify this queue, and the device's frame limit is the driver's packet limit.
abbrev pub QuietingLeads : Type 0
QuietingLeads =
    (w : Watched) (q : AtPort) (frame : ℕ) (origin : State) (h : List Entry) (old new : List Call) →
    IsAlong w origin h →
    (made : AreMade q old new both_quiet) → BeforeLast w origin h made.0 (HasGround w.queue q frame) →
    AtCalls w origin h new (IsQuiet w.queue q frame)

-- Whether both sides are off with no enable request pending.
abbrev pub are_off : Sides → Bool
are_off p =
    (not (p.side Rx).on && not (p.side Rx).wanted) && (not (p.side Tx).on && not (p.side Tx).wanted)

-- Two sides that are off with no enable request pending are at rest in that state.
abbrev pub QuietSidesStand : Type 0
QuietSidesStand =
    (w : Watched) (q : AtPort) (frame : ℕ) (origin : State) (h : List Entry) (calls : List Call) → IsAlong w origin h →
    AtCalls w origin h calls (IsQuiet w.queue q frame) →
    AtCalls w origin h calls (λ s. (p : Sides) × IsTrue (are_off p) × Point w.queue (lent_by w.pass h) q frame p s)
