-- The state after a driver's start, over a legal history that leaves its queue alone.
use Rattle.std.specs.Prelude.{[], List, ℕ}
use Rattle.pmd_driver.specs.{Running.Running, Started.AreUp}
use Rattle.driver_laws.specs.StartPrelude.{Agree, Agrees, AtPort, Call, Entry, Numbers, State, Watched}
use Rattle.driver_laws.specs.{Along.AtCalls, Along.AtEntries, Along.BeforeLast, Along.IsAlong, Points.HasGround}
use Rattle.driver_laws.specs.Unused.{WentOn}

-- The driver begins well: just before its first access, its port and queue number identify this queue, and the device's
-- frame limit is the driver's packet limit.
pub record BeginsWell (w : Watched) (origin : State) (h : List Entry) (q : AtPort) (size frame : ℕ) (old : List Call)
    (a : Numbers) (new : List Call) (r : Running) (up : AreUp q size frame old a new r) : Type 0 where
  pub ground : BeforeLast w origin h up.receive.quiet.0 (HasGround w.queue q frame)

-- At each point where the pass has made exactly the calls that brought both sides up, the device and the driver agree
-- on both sides: nothing is posted or sent yet.
abbrev pub StartAgrees : Type 0
StartAgrees =
    (w : Watched) (origin : State) (h : List Entry) (q : AtPort) (size frame : ℕ) (old : List Call) (a : Numbers)
    (new : List Call) (r : Running) (up : AreUp q size frame old a new r) → IsAlong w origin h →
    BeginsWell w origin h q size frame old a new r up →
    AtCalls w origin h up.on.mid (λ s. Agree w.queue s [] up.empty × Agrees s w.queue [] r.transmit)

-- At that point, both sides are on, with nothing received or sent since they were enabled.
abbrev pub StartGoesOn : Type 0
StartGoesOn =
    (w : Watched) (origin : State) (h : List Entry) (q : AtPort) (size frame : ℕ) (old : List Call) (a : Numbers)
    (new : List Call) (r : Running) (up : AreUp q size frame old a new r) → IsAlong w origin h →
    BeginsWell w origin h q size frame old a new r up →
    AtEntries w h up.on.mid (WentOn w.queue origin)
