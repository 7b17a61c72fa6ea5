-- A driver with closed rings.
use Rattle.std.specs.Prelude.{List, []}
use Rattle.pmd_access.specs.NicDevice.DmaArena.Numbers.{Numbers}
use Rattle.pmd_access.specs.DeviceLock.declared.entry.Call.{Call}
use Rattle.pmd_access.specs.Home.{Homebound, Bringing}
use Rattle.pmd_driver.specs.Halted.{Halted, both_ways}
use Rattle.pmd_driver.specs.declared.stopping.Leaving.{Leaving}

-- The driver with closed rings as a driver that isn't running.
abbrev pub leaving_as : Leaving → Halted
leaving_as l = record {
  arena = l.arena;
  held = [];
  way = both_ways l.receive l.transmit;
  handed = l.handed.items;
  accepted = l.accepted.items;
}

-- Two lists of blocks to be returned, combined, with the calls made.
abbrev pub bringing_both : List Call → Numbers → Homebound → Homebound → Bringing
bringing_both made a first second = record { made = made; arena = a; way = both_ways first second }
