-- Why a device isn't restored.
use Rattle.rx_ring.specs.DmaArena.Memory.{Memory}
use Rattle.rx_ring.specs.DmaArena.Numbers.{Numbers}
use Rattle.nic_device.specs.Blocks.{AreFree, IsLowestTaken}
use Rattle.nic_device.specs.declared.snapshot.RestoreRefused.{RestoreRefused}
use Rattle.nic_device.specs.declared.snapshot.RestoreRefused.TheVariants.{NotFree, OutOfMemory}

-- Either this is the lowest block of the memory that isn't free in the arena, or all blocks are free there and memory
-- ran out.
abbrev pub IsWhy : RestoreRefused → Numbers → Memory → Type 0
IsWhy (NotFree block) a m = IsLowestTaken a m block
IsWhy OutOfMemory a m = AreFree a m
