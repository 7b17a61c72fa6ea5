use Rattle.std.proofs.Common.{◌≤◌, drop, length}
use Rattle.nic_device.specs.Blocks.{memory_of, AreAmong}
use Rattle.nic_device.proofs.copies.all_lent.Given as goal

-- The copies at and after an index are lent.
abbrev pub invariant-each : goal.invariant-each
invariant-each l = record {
  inside : l.at ≤ length l.copies;
  among : AreAmong l.memory (memory_of (drop l.at l.copies));
}

abbrev pub decreases-each : goal.decreases-each
decreases-each l = l.at
