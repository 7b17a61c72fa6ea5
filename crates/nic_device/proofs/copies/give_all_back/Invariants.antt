use Rattle.std.specs.FinMap as map
use Rattle.rx_ring.specs.DmaArena.Numbers.{Numbers}
use Rattle.nic_device.specs.Blocks.{AreAway, HaveLeft}
use Rattle.nic_device.proofs.copies.give_all_back.Given as goal

-- The blocks still lent haven't been returned.
abbrev pub invariant-each : goal.invariant-each
invariant-each l = record {
  away : AreAway l.arena l.memory;
  left : (before : Numbers) → HaveLeft before l.initial.arena l.initial.memory → HaveLeft before l.arena l.memory;
}

abbrev pub decreases-each : goal.decreases-each
decreases-each l = map.len l.memory
