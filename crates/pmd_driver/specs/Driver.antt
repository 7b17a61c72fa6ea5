-- The driver of one queue, running or not.
use Rattle.std.specs.Prelude.{Bool, List, ⊤}
use Rattle.pmd_access.specs.NicDevice.DmaArena.Numbers.{Numbers}
use Rattle.pmd_access.specs.Packet.{Kept}
use Rattle.pmd_access.specs.Named.{AtPort}
use Rattle.pmd_access.specs.declared.packet.Packet.{Packet}
use Rattle.pmd_driver.specs.Halted as halted
use Rattle.pmd_driver.specs.Halted.{Halted, with_rings}
use Rattle.pmd_driver.specs.Running as running
use Rattle.pmd_driver.specs.Running.{Running}
use Rattle.pmd_driver.specs.declared.driver.Rings.{Rings}
use Rattle.pmd_driver.specs.declared.driver.Rings.TheVariants.{Up, Down}

-- The driver's queue, and its rings, which are up or being taken down.
pub record Driver : Type 0 where
  pub queue : AtPort
  pub rings : Rings

-- The driver's arena and records, whether it is running or not.

abbrev pub arena_of : Rings → Numbers
arena_of (Up r) = r.arena
arena_of (Down h) = h.arena

abbrev pub handed_of : Rings → List Kept
handed_of (Up r) = r.receive.handed
handed_of (Down h) = h.handed

abbrev pub accepted_of : Rings → List Kept
accepted_of (Up r) = r.transmit.accepted
accepted_of (Down h) = h.accepted

-- Whether a packet's blocks can return to the arena.
abbrev pub goes_back_to : Rings → Packet → Bool
goes_back_to (Up r) p = running.goes_back r p
goes_back_to (Down h) p = halted.goes_back h p

-- The same rings with another arena.
abbrev pub with_arena : Rings → Numbers → Rings
with_arena (Up r) a = Up (record r { arena = a })
with_arena (Down h) a = Down (record h { arena = a })

-- The driver with these rings, described as one that isn't running.
abbrev pub halted_of : Rings → Halted
halted_of (Up r) = with_rings r.arena r.receive r.transmit
halted_of (Down h) = h

-- If the driver is running, it stays running, and the property holds for its rings before and after.
abbrev pub WhereUp : Rings → Rings → (Running → Running → Type 0) → Type 0
WhereUp (Up r) (Up s) P = P r s
WhereUp (Up r) (Down h) P = ⊥
WhereUp (Down h) rings P = ⊤

-- The driver isn't running.
abbrev pub IsDown : Rings → Type 0
IsDown (Up r) = ⊥
IsDown (Down h) = ⊤
