-- Pool selection: the pool of queues that receives a frame.
use Rattle.std.specs.Prelude.{ℕ, ◌+◌, ◌*◌, ◌/◌, ◌%◌, ◌^◌, Bool, true, List, find, nat_lt}
use Rattle.std.specs.Prelude.{Option, Some, None, Result, Ok, Err, if◌then◌else◌}
use Rattle.std.specs.List.{range_with_len}
use Rattle.register_file.specs.RegTable.declared.rows.RowId.TheVariants.{VtCtl, Mpsar, Mrqc}
use Rattle.register_file.specs.RssHash.Mrqc.{queue_mode_of}
use Rattle.register_file.specs.RssHash.declared.mrqc.QueueMode.{QueueMode}
use Rattle.register_file.specs.RssHash.declared.mrqc.QueueMode.TheVariants as code
use Rattle.register_file.specs.VfMap.Pools.{pools_in}
use Rattle.register_file.specs.VfMap.declared.mode.Mode.{Mode}
use Rattle.register_file.specs.VfMap.declared.mode.Mode.TheVariants.{Off, Pools16, Pools32, Pools64}
use Rattle.register_file.specs.Bits.{has_bit}
use Rattle.register_file.specs.Pools.{mode_in, pool_bit}
pub use Rattle.register_file.specs.Pools.{takes_frames}
use Rattle.register_file.specs.Registers.{Registers, word_of}
use Rattle.rx_filter.specs.Address.{first_match}
use Rattle.rx_filter.specs.Fields.{VT_ENA, DIS_DEF_POOL}
use Rattle.rx_filter.specs.declared.fields.TheConstants.{DEF_PL}
use Rattle.rx_filter.specs.declared.unwanted.Unwanted.{Unwanted}
use Rattle.rx_filter.specs.declared.unwanted.Unwanted.TheVariants.{NoPool, PoolOff}

-- Frames are distributed among pools if VT_CTL bit 0, VT_ENA, is 1.
abbrev pub uses_pools : Registers → Bool
uses_pools r = has_bit VT_ENA (word_of r VtCtl 0)

-- Whether a pool receives frames for address i. MPSAR[2i] covers pools 0 to 31, MPSAR[2i + 1] pools 32 to 63.
abbrev pub selects : Registers → ℕ → ℕ → Bool
selects r i pool = pool_bit (λ k. word_of r Mpsar (2 * i + k)) pool

-- The lowest pool that receives frames for an address, if any.
unfoldable pub lowest_pool : Registers → ℕ → Option ℕ
lowest_pool r i = find (selects r i) (range_with_len 0 64)

-- The pool of a frame for which no address selects a pool: VT_CTL bits 12 to 7, DEF_PL, or none if bit 29,
-- DIS_DEF_POOL, is 1.
abbrev pub default_pool : Registers → Option ℕ
default_pool r =
    if has_bit DIS_DEF_POOL (word_of r VtCtl 0) then None else Some (word_of r VtCtl 0 / 2 ^ DEF_PL % 64)

-- The lowest pool of the first address that a frame matches. If there is no such pool, the default pool.
abbrev pub matched_pool : Registers → Option ℕ → Option ℕ
matched_pool r None = None
matched_pool r (Some i) = lowest_pool r i

abbrev pub or_default : Registers → Option ℕ → Option ℕ
or_default r None = default_pool r
or_default r (Some pool) = Some pool

abbrev pub selected_pool : Registers → List ℕ → Option ℕ
selected_pool r frame = or_default r (matched_pool r (first_match r frame))

-- The number of pools with each of MRQC's codes for pools: 16 if GCR_EXT selects 16; otherwise 32 with code 0xA, and 64
-- with the other codes for pools.
abbrev pub sixteen_or : Mode → Mode → Mode
sixteen_or Pools16 by_code = Pools16
sixteen_or other by_code = by_code

abbrev pub parting : QueueMode → Mode → Mode
parting code.Single mode = Off
parting code.Rss mode = Off
parting code.Vmdq64 mode = sixteen_or mode Pools64
parting code.Vmdq32Rss mode = sixteen_or mode Pools32
parting code.Vmdq64Rss mode = sixteen_or mode Pools64

abbrev pub parting_in : Registers → Mode
parting_in r = parting (queue_mode_of (word_of r Mrqc 0)) (mode_in r)

-- Whether a pool has queues. While the queues aren't divided into pools, every pool has queues; otherwise only the
-- mode's pools have queues.
abbrev pub has_queues : Mode → ℕ → Bool
has_queues Off pool = true
has_queues mode pool = nat_lt pool (pools_in mode)

-- A frame's pool, if the pool has queues and reception is enabled for the pool; otherwise the reason for the drop.
abbrev pub checked_pool : Registers → Option ℕ → Result ℕ Unwanted
checked_pool r None = Err NoPool
checked_pool r (Some pool) =
    if has_queues (parting_in r) pool
    then (if takes_frames r pool then Ok pool else Err PoolOff)
    else Err NoPool

-- The pool that receives a frame: pool 0 if pools aren't in use.
unfoldable pub chosen_pool : Registers → List ℕ → Result ℕ Unwanted
chosen_pool r frame = if uses_pools r then checked_pool r (selected_pool r frame) else Ok 0
