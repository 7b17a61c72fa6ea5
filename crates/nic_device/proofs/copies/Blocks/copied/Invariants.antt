use Rattle.nic_device.specs.Blocks.{memory_of, AreRising}
use Rattle.nic_device.proofs.BlockCopies.{IsFrom}
use Rattle.nic_device.proofs.copies.Blocks.copied.Given as goal

-- The blocks at and above a number are copied.
abbrev pub invariant-each : goal.invariant-each
invariant-each l = record {
  from : IsFrom l.memory (memory_of l.copies.items) l.number;
  rising : AreRising l.copies.items;
}

abbrev pub decreases-each : goal.decreases-each
decreases-each l = l.number
