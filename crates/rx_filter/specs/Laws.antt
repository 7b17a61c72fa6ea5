-- What a driver author can rely on.
use Rattle.std.specs.Prelude.{ℕ, ◌≡◌, ◌≢◌, ◌<◌, ◌+◌, ◌*◌, ◌/◌, ◌%◌, ◌^◌, ◌==◌, ◌↔◌, ◌⊎◌}
use Rattle.std.specs.Prelude.{Bool, true, false, IsTrue, IsFalse, List, Some, None, Ok, Err, slice_index, if◌then◌else◌}
use Rattle.register_file.specs.RegTable.declared.rows.RowId.TheVariants.{Fctrl, Mcstctrl, Mta, VtCtl, Mrqc, Reta}
use Rattle.register_file.specs.RssHash.Choice.{code_of}
use Rattle.register_file.specs.RssHash.Mrqc.{queue_mode_of}
use Rattle.register_file.specs.RssHash.Registers.{bytes_of_registers}
use Rattle.register_file.specs.RssHash.declared.mrqc.QueueMode.{QueueMode}
use Rattle.register_file.specs.RssHash.declared.mrqc.QueueMode.TheVariants.{Single, Rss, Vmdq64, Vmdq32Rss, Vmdq64Rss}
use Rattle.register_file.specs.VfMap.Owner.{has_queue}
use Rattle.register_file.specs.VfMap.declared.mode.Mode.{Mode}
use Rattle.register_file.specs.VfMap.declared.mode.Mode.TheVariants as mode
use Rattle.register_file.specs.Pools.{mode_in}
use Rattle.register_file.specs.Bits.{has_bit}
use Rattle.register_file.specs.Registers.{Registers, reset_registers, word_of}
use Rattle.register_file.specs.Words.{row_words}
use Rattle.rx_filter.specs.Address.{matches, is_broadcast, is_multicast, passes}
use Rattle.rx_filter.specs.Pools.{uses_pools, takes_frames, selects, selected_pool}
use Rattle.rx_filter.specs.Sorting.{rss_type, rss_hash, rss_entry, sorted}
use Rattle.rx_filter.specs.Fields.{MPE, UPE, BAM, MFE, AV, VT_ENA, DIS_DEF_POOL, PCSD}
use Rattle.rx_filter.specs.declared.fields.TheConstants.{MO, DEF_PL}
use Rattle.rx_filter.specs.declared.target.Target.{Target}
use Rattle.rx_filter.specs.declared.unwanted.Unwanted.TheVariants.{Filter, NoPool}

-- The lowest bit of each field is where the datasheet puts it.
pub record FieldsStandAtTheirBits : Type 0 where
  pub fctrl : (MPE ≡ 8) × ((UPE ≡ 9) × (BAM ≡ 10))
  pub mcstctrl : (MO ≡ 0) × (MFE ≡ 2)
  pub rah : AV ≡ 31
  pub vt_ctl : (VT_ENA ≡ 0) × ((DEF_PL ≡ 7) × (DIS_DEF_POOL ≡ 29))
  pub rxcsum : PCSD ≡ 13

-- A frame of bytes is a broadcast frame if and only if each of its six destination bytes is 0xFF.
abbrev pub BroadcastIsAllOnes : Type 0
BroadcastIsAllOnes =
    (frame : List ℕ) → ((k : ℕ) → slice_index frame k < 256) →
    IsTrue (is_broadcast frame) ↔ ((k : ℕ) → k < 6 → slice_index frame k ≡ 0xFF)

-- A broadcast frame is accepted if and only if FCTRL bit 10, BAM, or bit 8, MPE, is 1.
abbrev pub BroadcastIsLetIn : Type 0
BroadcastIsLetIn =
    (r : Registers) (frame : List ℕ) → IsTrue (is_broadcast frame) →
    IsTrue (passes r frame) ↔ (IsTrue (has_bit BAM (word_of r Fctrl 0)) ⊎ IsTrue (has_bit MPE (word_of r Fctrl 0)))

-- Some valid address equals the frame's destination.
abbrev pub IsAddressed : Registers → List ℕ → Type 0
IsAddressed r frame = (i : ℕ) × (i < 128 × IsTrue (matches r frame i))

-- A destination's index in MTA for each value of MO, as a driver computes it from the last two bytes of the address:
-- bits 47 to 36 of the address for value 0, 46 to 35 for 1, 45 to 34 for 2, and 43 to 32 for 3.
abbrev pub vector_of : ℕ → List ℕ → ℕ
vector_of choice frame =
    if choice == 0 then (slice_index frame 4 / 16 + 16 * slice_index frame 5) % 4096
    else (if choice == 1 then (slice_index frame 4 / 8 + 32 * slice_index frame 5) % 4096
    else (if choice == 2 then (slice_index frame 4 / 4 + 64 * slice_index frame 5) % 4096
    else (slice_index frame 4 + 256 * slice_index frame 5) % 4096))

-- MCSTCTRL bit 2, MFE, and the destination's bit in MTA are both 1.
abbrev pub IsListed : Registers → List ℕ → Type 0
IsListed r frame =
    let vector = vector_of (word_of r Mcstctrl 0 % 4) frame in
    IsTrue (has_bit MFE (word_of r Mcstctrl 0)) × IsTrue (has_bit (vector % 32) (word_of r Mta (vector / 32)))

-- A multicast frame other than a broadcast is accepted if and only if one of these holds: FCTRL bit 8, MPE, is 1; a
-- valid address equals the frame's destination; MTA lists the destination.
abbrev pub MulticastIsLetIn : Type 0
MulticastIsLetIn =
    (r : Registers) (frame : List ℕ) → IsFalse (is_broadcast frame) → IsTrue (is_multicast frame) →
    IsTrue (passes r frame) ↔ (IsTrue (has_bit MPE (word_of r Fctrl 0)) ⊎ (IsAddressed r frame ⊎ IsListed r frame))

-- A unicast frame is accepted if and only if FCTRL bit 9, UPE, is 1 or a valid address equals the frame's destination.
abbrev pub UnicastIsLetIn : Type 0
UnicastIsLetIn =
    (r : Registers) (frame : List ℕ) → IsFalse (is_multicast frame) →
    IsTrue (passes r frame) ↔ (IsTrue (has_bit UPE (word_of r Fctrl 0)) ⊎ IsAddressed r frame)

-- A frame is dropped for the reason `Filter` if and only if its destination isn't accepted.
abbrev pub FilteredIsNotLetIn : Type 0
FilteredIsNotLetIn = (r : Registers) (frame : List ℕ) → (sorted r frame ≡ Err Filter) ↔ IsFalse (passes r frame)

-- After a reset no frame is accepted.
abbrev pub ResetRefusesAll : Type 0
ResetRefusesAll = (frame : List ℕ) → sorted reset_registers frame ≡ Err Filter

-- Without pools and with a single queue, each accepted frame goes to queue 0, with RSS type 0 and hash 0.
abbrev pub SingleIsQueue0 : Type 0
SingleIsQueue0 =
    (r : Registers) (frame : List ℕ) → uses_pools r ≡ false → queue_mode_of (word_of r Mrqc 0) ≡ Single →
    passes r frame ≡ true → sorted r frame ≡ Ok (record { queue = 0; rss = 0; hash = 0 })

-- The codes that give each pool its own queues, and the pool of a queue. Each pool has eight queues if GCR_EXT selects
-- 16 pools. Otherwise, each pool has four queues with 32 pools, and two with 64.
abbrev pub has_pools : QueueMode → Bool
has_pools Single = false
has_pools Rss = false
has_pools Vmdq64 = true
has_pools Vmdq32Rss = true
has_pools Vmdq64Rss = true

abbrev pub pool_of_queue : QueueMode → Mode → ℕ → ℕ
pool_of_queue code mode.Pools16 queue = queue / 8
pool_of_queue Vmdq32Rss mode queue = queue / 4
pool_of_queue code mode queue = queue / 2

-- If frames are distributed among pools and MRQC has a code that gives pools their own queues, a queue receives frames
-- only while reception is enabled for the queue's pool.
abbrev pub OffPoolsGetNone : Type 0
OffPoolsGetNone =
    (r : Registers) (frame : List ℕ) (t : Target) → uses_pools r ≡ true →
    has_pools (queue_mode_of (word_of r Mrqc 0)) ≡ true → sorted r frame ≡ Ok t →
    takes_frames r (pool_of_queue (queue_mode_of (word_of r Mrqc 0)) (mode_in r) t.queue) ≡ true

-- Address i is the first address that is valid and equals the frame's destination.
pub record IsFirstMatch (r : Registers) (frame : List ℕ) (i : ℕ) : Type 0 where
  pub within : i < 128
  pub matched : IsTrue (matches r frame i)
  pub first : (lower : ℕ) → lower < i → IsFalse (matches r frame lower)

-- This pool is the lowest pool that is selected for address i.
pub record IsLowestPool (r : Registers) (i pool : ℕ) : Type 0 where
  pub within : pool < 64
  pub selected : IsTrue (selects r i pool)
  pub lowest : (lower : ℕ) → lower < pool → IsFalse (selects r i lower)

-- No valid address equals the frame's destination, or the first valid address that equals it selects no pool.
abbrev pub HasNoPool : Registers → List ℕ → Type 0
HasNoPool r frame =
    ((i : ℕ) → i < 128 → IsFalse (matches r frame i))
    ⊎ ((i : ℕ) × (IsFirstMatch r frame i × ((pool : ℕ) → pool < 64 → IsFalse (selects r i pool))))

-- A frame's pool is the lowest pool of the first address that equals the frame's destination. If there is no such pool,
-- the frame's pool is the number in VT_CTL bits 12 to 7, or none if VT_CTL bit 29, DIS_DEF_POOL, is 1.
pub record PoolOfAFrame : Type 0 where
  pub matched : (r : Registers) (frame : List ℕ) (i pool : ℕ) → IsFirstMatch r frame i → IsLowestPool r i pool →
      selected_pool r frame ≡ Some pool
  pub default : (r : Registers) (frame : List ℕ) → HasNoPool r frame →
      IsFalse (has_bit DIS_DEF_POOL (word_of r VtCtl 0)) → selected_pool r frame ≡ Some (word_of r VtCtl 0 / 2 ^ 7 % 64)
  pub none : (r : Registers) (frame : List ℕ) → HasNoPool r frame →
      IsTrue (has_bit DIS_DEF_POOL (word_of r VtCtl 0)) → selected_pool r frame ≡ None

-- Frames are distributed among pools, this pool is selected for the frame, and the frame goes to this target.
pub record GoesToPool (r : Registers) (frame : List ℕ) (pool : ℕ) (t : Target) : Type 0 where
  pub parted : IsTrue (uses_pools r)
  pub meant : selected_pool r frame ≡ Some pool
  pub goes : sorted r frame ≡ Ok t

-- The queue that each code in MRQC selects. With hashing alone, the queue is the frame's redirection table entry. The
-- entry is the low four bits of the RETA byte that the low seven bits of the hash select, or 0 if the frame has no RSS
-- type. With a code for pools, if frames are distributed among pools, the queue is one of the pool's own queues. Each
-- pool has eight queues if GCR_EXT selects 16 pools, otherwise four or two.
pub record QueuesByMode : Type 0 where
  pub hashing : (r : Registers) (frame : List ℕ) (t : Target) → sorted r frame ≡ Ok t →
      queue_mode_of (word_of r Mrqc 0) ≡ Rss → t.queue ≡ rss_entry r frame
  pub entry : (r : Registers) (frame : List ℕ) → code_of (rss_type r frame) ≢ 0 →
      rss_entry r frame ≡ slice_index (bytes_of_registers (row_words r.words Reta)) (rss_hash r frame % 128) % 16
  pub no_entry : (r : Registers) (frame : List ℕ) → code_of (rss_type r frame) ≡ 0 → rss_entry r frame ≡ 0
  pub pools_32_hashing : (r : Registers) (frame : List ℕ) (pool : ℕ) (t : Target) → GoesToPool r frame pool t →
      mode_in r ≢ mode.Pools16 → queue_mode_of (word_of r Mrqc 0) ≡ Vmdq32Rss →
      t.queue ≡ 4 * pool + rss_entry r frame % 4
  pub pools_64_hashing : (r : Registers) (frame : List ℕ) (pool : ℕ) (t : Target) → GoesToPool r frame pool t →
      mode_in r ≢ mode.Pools16 → queue_mode_of (word_of r Mrqc 0) ≡ Vmdq64Rss →
      t.queue ≡ 2 * pool + rss_entry r frame % 2
  pub pools_64 : (r : Registers) (frame : List ℕ) (pool : ℕ) (t : Target) → GoesToPool r frame pool t →
      mode_in r ≢ mode.Pools16 → queue_mode_of (word_of r Mrqc 0) ≡ Vmdq64 → t.queue ≡ 2 * pool
  pub pools_16_hashing : (r : Registers) (frame : List ℕ) (pool : ℕ) (t : Target) → GoesToPool r frame pool t →
      mode_in r ≡ mode.Pools16 →
      (queue_mode_of (word_of r Mrqc 0) ≡ Vmdq32Rss) ⊎ (queue_mode_of (word_of r Mrqc 0) ≡ Vmdq64Rss) →
      t.queue ≡ 8 * pool + rss_entry r frame % 8
  pub pools_16 : (r : Registers) (frame : List ℕ) (pool : ℕ) (t : Target) → GoesToPool r frame pool t →
      mode_in r ≡ mode.Pools16 → queue_mode_of (word_of r Mrqc 0) ≡ Vmdq64 → t.queue ≡ 8 * pool

-- The pool has no queues, in one of two cases. The pool is above 15, GCR_EXT selects 16 pools, and MRQC has a code for
-- pools. Or the pool is above 31, GCR_EXT doesn't select 16 pools, and MRQC has the code for 32 pools.
abbrev pub IsBeyond : Registers → ℕ → Type 0
IsBeyond r pool =
    ((mode_in r ≡ mode.Pools16) × (has_pools (queue_mode_of (word_of r Mrqc 0)) ≡ true) × (15 < pool))
    ⊎ ((mode_in r ≢ mode.Pools16) × (queue_mode_of (word_of r Mrqc 0) ≡ Vmdq32Rss) × (31 < pool))

-- While frames are distributed among pools, an accepted frame for a pool without queues is dropped for the reason
-- `NoPool`.
abbrev pub PoolsBeyondGetNone : Type 0
PoolsBeyondGetNone =
    (r : Registers) (frame : List ℕ) (pool : ℕ) → IsTrue (passes r frame) → IsTrue (uses_pools r) →
    selected_pool r frame ≡ Some pool → IsBeyond r pool → sorted r frame ≡ Err NoPool

-- The premises: GCR_EXT selects 16 pools, frames are distributed among pools, and MRQC has a code for pools. A frame
-- reaches only queues that belong to the virtual function of the frame's pool.
abbrev pub FunctionsGetTheirs : Type 0
FunctionsGetTheirs =
    (r : Registers) (frame : List ℕ) (pool : ℕ) (t : Target) → mode_in r ≡ mode.Pools16 →
    has_pools (queue_mode_of (word_of r Mrqc 0)) ≡ true → GoesToPool r frame pool t →
    IsTrue (has_queue (mode_in r) pool t.queue)
