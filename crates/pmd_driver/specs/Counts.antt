-- The numbers that a driver reports about its transmit ring.
use Rattle.std.specs.Prelude.{ℕ}
use Rattle.pmd_tx.specs.Counted.{packets_in}
use Rattle.pmd_driver.specs.Bursts.{vacant_in}
use Rattle.pmd_driver.specs.declared.driver.Rings.{Rings}
use Rattle.pmd_driver.specs.declared.driver.Rings.TheVariants.{Up, Down}

-- The number of descriptors that can still be filled, and the number of packets accepted but not yet reaped. Both are 0
-- if the driver isn't running.

abbrev pub vacant_of : Rings → ℕ
vacant_of (Up r) = vacant_in r.transmit
vacant_of (Down h) = 0

abbrev pub outstanding_of : Rings → ℕ
outstanding_of (Up r) = packets_in r.transmit.outstanding
outstanding_of (Down h) = 0
