-- How the registers divide the queues into pools, and which pools are enabled.
use Rattle.std.specs.Prelude.{ℕ, ◌/◌, ◌%◌, Bool}
use Rattle.reg_table.specs.declared.rows.RowId.{RowId}
use Rattle.reg_table.specs.declared.rows.RowId.TheVariants.{GcrExt, Vfre, Vfte}
use Rattle.vf_map.specs.Pools.{mode_of}
use Rattle.vf_map.specs.declared.mode.Mode.{Mode}
use Rattle.register_file.specs.Bits.{has_bit}
use Rattle.register_file.specs.Registers.{Registers, word_of}
use Rattle.dma_ring.specs.declared.dir.Dir.{Dir}
use Rattle.dma_ring.specs.declared.dir.Dir.TheVariants.{Rx, Tx}

-- How GCR_EXT divides the queues into pools.
abbrev pub mode_in : Registers → Mode
mode_in r = mode_of (word_of r GcrExt 0)

-- Whether a pool's bit is 1 in a pair of words. The first word covers pools 0 to 31, the second pools 32 to 63.
abbrev pub pool_bit : (ℕ → ℕ) → ℕ → Bool
pool_bit words pool = has_bit (pool % 32) (words (pool / 32))

-- The row that enables pools: VFRE for receive, VFTE for transmit.
abbrev pub pool_row : Dir → RowId
pool_row Rx = Vfre
pool_row Tx = Vfte

-- Whether a pool is enabled for a direction: its bit in VFRE or VFTE is 1.
abbrev pub is_pool_on : Registers → Dir → ℕ → Bool
is_pool_on r dir pool = pool_bit (word_of r (pool_row dir)) pool

-- Whether a pool may receive frames, and whether it may transmit.
abbrev pub takes_frames : Registers → ℕ → Bool
takes_frames r pool = is_pool_on r Rx pool

abbrev pub sends_frames : Registers → ℕ → Bool
sends_frames r pool = is_pool_on r Tx pool
