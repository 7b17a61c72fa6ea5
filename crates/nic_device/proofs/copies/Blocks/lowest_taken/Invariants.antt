use Rattle.std.proofs.Common.{◌≤◌, drop, length}
use Rattle.nic_device.specs.Blocks.{memory_of, TellsTaken}
use Rattle.nic_device.proofs.copies.Blocks.lowest_taken.Given as goal

-- The copies at and after an index are visited.
abbrev pub invariant-each : goal.invariant-each
invariant-each l = record {
  inside : l.at ≤ length l.copies.items;
  reported : TellsTaken l.arena (memory_of (drop l.at l.copies.items)) l.lowest;
}

abbrev pub decreases-each : goal.decreases-each
decreases-each l = l.at
