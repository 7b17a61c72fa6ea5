use Rattle.std.proofs.Common.{◌≡◌, ◌≤◌, drop, length}
use Rattle.nic_device.specs.Blocks.{memory_of, HaveLeft}
use Rattle.nic_device.proofs.copies.lend_all.Given as goal

-- The copies at and after an index are lent.
abbrev pub invariant-each : goal.invariant-each
invariant-each l = record {
  inside : l.at ≤ length l.copies;
  lent : l.memory ≡ memory_of (drop l.at l.copies);
  left : HaveLeft l.fn.arena l.arena l.memory;
}

abbrev pub decreases-each : goal.decreases-each
decreases-each l = l.at
