-- A driver's life: its start, the calls of its halves, and its stop.
use Rattle.std.specs.Prelude.{ℕ, ◌≡◌, List, [], Option, Some, None, Err}
use Rattle.pmd_access.specs.NicDevice.DmaArena.Numbers.{Numbers}
use Rattle.pmd_access.specs.DeviceLock.declared.entry.Call.{Call}
use Rattle.pmd_access.specs.declared.fault.PmdFault.{PmdFault}
use Rattle.pmd_access.specs.Named.{AtPort}
use Rattle.pmd_driver.specs.Halted.{Halted}
use Rattle.pmd_driver.specs.Stopping.{Stops, StopFails}
use Rattle.pmd_driver.specs.Apart.{DrivesRings, OwnsSame}
use Rattle.pmd_driver.specs.Driver.{WhereUp, halted_of}
use Rattle.pmd_driver.specs.Halves.{halves_of}
use Rattle.pmd_driver.specs.Running.{Running}
use Rattle.pmd_driver.specs.Started.{AreUp, IsShut, StopsStarting, start_gate, left_accepted, left_handed}
use Rattle.pmd_driver.specs.declared.driver.Rings.{Rings}
use Rattle.pmd_driver.specs.declared.driver.Rings.TheVariants.{Up, Down}
use Rattle.pmd_driver.specs.declared.start.Rest.{Rest}
use Rattle.pmd_driver.specs.declared.start.Rest.TheVariants as rest
use Rattle.pmd_driver.specs.declared.start.StartRefused.{StartRefused}

-- If the driver is running, it stays running, and each call since then is made by one of its halves or is a device
-- step.
abbrev pub RunsOn : List Call → Rings → List Call → Rings → Type 0
RunsOn old rings new after = WhereUp rings after (λ r s. DrivesRings old r new s)

-- If the driver is running, it stays running with unchanged halves, and the arena owns the same numbers.
abbrev pub KeepsHalves : Rings → Rings → Type 0
KeepsHalves rings after = WhereUp rings after (λ r s. (halves_of s ≡ halves_of r) × OwnsSame r.arena s.arena)

-- The driver of this queue is running. After the earlier calls, it brought its rings up, with `size` descriptors each
-- and blocks from this arena. Each call since then is made by one of its halves or is a device step.
pub record Lives (q : AtPort) (size frame : ℕ) (old : List Call) (a : Numbers) (new : List Call) (r : Running) :
    Type 0 where
  -- The calls made until the driver ran, and the driver at that point.
  pub made : List Call
  pub fresh : Running
  pub up : AreUp q size frame old a made fresh
  pub drives : DrivesRings made fresh new r

-- The driver of this queue was stopped once. Either the stop succeeded, or it was refused for this fault and returned a
-- driver that isn't running.
abbrev pub IsStopped : AtPort → List Call → Halted → List Call → Rest → Option PmdFault → Type 0
IsStopped q old h new (rest.Home home) None = Stops q old h new home
IsStopped q old h new (rest.Running p) (Some f) =
    (after : Halted) × (p ≡ record { queue = q; rings = Down after }) × StopFails f q old h new after
IsStopped q old h new left late = ⊥

-- The driver ran and was stopped once, successfully or not. The packets that it handed out and accepted are those that
-- its halves handed out and accepted up to that point.
pub record HasLived (q : AtPort) (size frame : ℕ) (old : List Call) (a : Numbers) (new : List Call) (left : Rest)
    (late : Option PmdFault) : Type 0 where
  -- The calls made up to the stop, and the driver at that point.
  pub made : List Call
  pub last : Running
  pub lives : Lives q size frame old a made last
  pub stopped : IsStopped q made (halted_of (Up last)) new left late
  pub handed : left_handed left ≡ last.receive.handed
  pub accepted : left_accepted left ≡ last.transmit.accepted

-- If a refused start returned the arena, nothing else happened. If it returned a driver, that driver was stopped once.
abbrev pub ComesDown : List Call → Rest → List Call → Rest → Type 0
ComesDown old (rest.Home home) new left = (left ≡ rest.Home home) × (new ≡ old)
ComesDown old (rest.Running p) new left =
    (late : Option PmdFault) × IsStopped p.queue old (halted_of p.rings) new left late

-- The driver's start was refused. If the refused start returned a driver, that driver was stopped once. No packet was
-- handed out or accepted.
pub record NeverLived (q : AtPort) (size frame : ℕ) (old : List Call) (a : Numbers) (e : StartRefused) (new : List Call)
    (left : Rest) : Type 0 where
  -- The calls made when the start was refused.
  pub made : List Call
  pub shut : IsShut (start_gate a q size frame) a old made (Err e)
  pub stops : start_gate a q size frame ≡ None → StopsStarting q size frame old a made e
  pub down : ComesDown made e.rest new left
  pub handed : left_handed left ≡ []
  pub accepted : left_accepted left ≡ []
