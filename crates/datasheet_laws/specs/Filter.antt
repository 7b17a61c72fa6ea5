-- Which frames are accepted, and for which pool, by the addresses and bits that a driver writes.
use Rattle.std.specs.Prelude.{ℕ, ◌≡◌, ◌≢◌, ◌<◌, ◌+◌, ◌*◌, ◌/◌, ◌%◌, ◌==◌, ◌⊎◌, ◌↔◌, true, false, List, slice_index, Some, None, Err, if◌then◌else◌}
use Rattle.rx_filter.specs.Pools.{uses_pools, takes_frames, selected_pool}
use Rattle.rx_filter.specs.declared.unwanted.Unwanted.TheVariants.{Filter}
use Rattle.datasheet_laws.specs.NumberPrelude.{Registers, has_bit, sorted}
use Rattle.datasheet_laws.specs.ByAddress.{word, holds}

-- The words of an address: bits 7 to 0 of the low word have the first byte of the destination, bits 31 to 24 the
-- fourth; bits 7 to 0 of the high word have the fifth, bits 15 to 8 the sixth, and bit 31 marks the address as valid.
pub record IsAddress (low high : ℕ) (frame : List ℕ) : Type 0 where
  pub valid : has_bit 31 high ≡ true
  pub first : low % 256 ≡ slice_index frame 0
  pub second : low / 256 % 256 ≡ slice_index frame 1
  pub third : low / 65536 % 256 ≡ slice_index frame 2
  pub fourth : low / 16777216 ≡ slice_index frame 3
  pub fifth : high % 256 ≡ slice_index frame 4
  pub sixth : high / 256 % 256 ≡ slice_index frame 5

-- RAL[i] and RAH[i] contain a frame's destination (`IsAddressedBy`). One of the 128 addresses is the frame's
-- destination (`IsAddressed`).
abbrev pub IsAddressedBy : Registers → List ℕ → ℕ → Type 0
IsAddressedBy r frame i = IsAddress (word r (0x0A200 + 8 * i)) (word r (0x0A204 + 8 * i)) frame

abbrev pub IsAddressed : Registers → List ℕ → Type 0
IsAddressed r frame = (i : ℕ) × (i < 128 × IsAddressedBy r frame i)

-- A destination's number in MTA, by MCSTCTRL bits 1 to 0: with 0 bits 47 to 36 of the address, with 1 bits 46 to 35,
-- with 2 bits 45 to 34, and with 3 bits 43 to 32.
abbrev pub vector_of : (choice : ℕ) → List ℕ → ℕ
vector_of choice frame =
    if choice == 0 then (slice_index frame 4 / 16 + 16 * slice_index frame 5) % 4096
    else (if choice == 1 then (slice_index frame 4 / 8 + 32 * slice_index frame 5) % 4096
    else (if choice == 2 then (slice_index frame 4 / 4 + 64 * slice_index frame 5) % 4096
    else (slice_index frame 4 + 256 * slice_index frame 5) % 4096))

-- MCSTCTRL bit 2 is 1, and so is the destination's bit in MTA.
pub record IsListed (r : Registers) (frame : List ℕ) (vector : ℕ) : Type 0 where
  pub counts : holds r 0x05090 2 ≡ true
  pub bit : holds r (0x05200 + 4 * (vector / 32)) (vector % 32) ≡ true

abbrev pub IsLetIn : Registers → List ℕ → Type 0
IsLetIn r frame = sorted r frame ≢ Err Filter

-- How unicast, multicast and broadcast frames pass: by FCTRL bits 9, 8 and 10, by an address, or by MTA.
pub record LetsIn (r : Registers) (frame : List ℕ) : Type 0 where
  pub one : slice_index frame 0 % 2 ≡ 0 →
      IsLetIn r frame ↔ ((holds r 0x05080 9 ≡ true) ⊎ IsAddressed r frame)
  pub several : slice_index frame 0 % 2 ≡ 1 → ¬ ((k : ℕ) → k < 6 → slice_index frame k ≡ 0xFF) →
      IsLetIn r frame
      ↔ ((holds r 0x05080 8 ≡ true)
      ⊎ (IsAddressed r frame ⊎ IsListed r frame (vector_of (word r 0x05090 % 4) frame)))
  pub all : ((k : ℕ) → k < 6 → slice_index frame k ≡ 0xFF) →
      IsLetIn r frame ↔ ((holds r 0x05080 10 ≡ true) ⊎ (holds r 0x05080 8 ≡ true))

abbrev pub FramesAreLetIn : Type 0
FramesAreLetIn = (r : Registers) (frame : List ℕ) → ((k : ℕ) → slice_index frame k < 256) → LetsIn r frame

-- The first of the addresses that are a frame's destination, and the lowest of its pools. MPSAR[2i] covers pools 0 to
-- 31, MPSAR[2i + 1] pools 32 to 63.
abbrev pub has_pool : Registers → (i pool : ℕ) → Type 0
has_pool r i pool = holds r (0x0A600 + 4 * (2 * i + pool / 32)) (pool % 32) ≡ true

pub record IsChosen (r : Registers) (frame : List ℕ) (i pool : ℕ) : Type 0 where
  pub within : i < 128
  pub addressed : IsAddressedBy r frame i
  pub first : (lower : ℕ) → lower < i → ¬ IsAddressedBy r frame lower
  pub pools : pool < 64
  pub selected : has_pool r i pool
  pub lowest : (lower : ℕ) → lower < pool → ¬ has_pool r i lower

-- The first of the 128 addresses that is a frame's destination.
pub record IsFirst (r : Registers) (frame : List ℕ) (i : ℕ) : Type 0 where
  pub within : i < 128
  pub addressed : IsAddressedBy r frame i
  pub first : (lower : ℕ) → lower < i → ¬ IsAddressedBy r frame lower

-- The default pool: VT_CTL bits 12 to 7.
abbrev pub default_of : Registers → ℕ
default_of r = word r 0x051B0 / 128 % 64

-- VT_CTL bit 0 distributes frames among pools. A frame without its own pool is for the default pool, or, if bit 29 is
-- 1, for no pool. A frame lacks its own pool if no address is its destination, or if the first such address has no
-- pool, whatever pools the others have. VFRE says which pools accept frames.
pub record ChoosesPools (r : Registers) (frame : List ℕ) : Type 0 where
  pub parts : uses_pools r ≡ holds r 0x051B0 0
  pub matched : (i pool : ℕ) → IsChosen r frame i pool → selected_pool r frame ≡ Some pool
  pub default : ¬ IsAddressed r frame → holds r 0x051B0 29 ≡ false →
      selected_pool r frame ≡ Some (default_of r)
  pub none : ¬ IsAddressed r frame → holds r 0x051B0 29 ≡ true → selected_pool r frame ≡ None
  pub poolless : (i : ℕ) → IsFirst r frame i → ((pool : ℕ) → pool < 64 → ¬ has_pool r i pool) →
      holds r 0x051B0 29 ≡ false → selected_pool r frame ≡ Some (default_of r)
  pub poolless_none : (i : ℕ) → IsFirst r frame i → ((pool : ℕ) → pool < 64 → ¬ has_pool r i pool) →
      holds r 0x051B0 29 ≡ true → selected_pool r frame ≡ None
  pub takes : (pool : ℕ) → pool < 64 → takes_frames r pool ≡ holds r (0x051E0 + 4 * (pool / 32)) (pool % 32)

abbrev pub PoolsAreChosen : Type 0
PoolsAreChosen = (r : Registers) (frame : List ℕ) → ((k : ℕ) → slice_index frame k < 256) → ChoosesPools r frame
