-- The laws about the map from virtual functions' offsets to registers.
use Rattle.std.specs.Prelude.{ℕ, ◌≡◌, ◌≢◌, ◌↔◌, ◌+◌, ◌*◌, ◌/◌, ◌%◌, ◌<◌, ◌≤◌, ◌⊎◌, IsTrue, Option, Some, None, AllPairs}
use Rattle.reg_table.specs.Place.{place_among, view_among}
use Rattle.reg_table.specs.Rows.{row_of}
use Rattle.reg_table.specs.Runs.{runs}
use Rattle.reg_table.specs.declared.place.Place.{Place}
use Rattle.reg_table.specs.declared.rows.RowId.{RowId}
use Rattle.reg_table.specs.declared.rows.RowId.TheVariants.{Pvtivar, Rdbal, Tdbal}
use Rattle.vf_map.specs.Pools.{queues_of, pool_of, queues_each, pools_in}
use Rattle.vf_map.specs.Owner.{is_of_pool, is_shared, is_receive, is_transmit}
use Rattle.vf_map.specs.Map.{entries, distance, located, mapped}
use Rattle.vf_map.specs.declared.mode.Mode.{Mode}
use Rattle.vf_map.specs.declared.mode.Mode.TheVariants.{Off}
use Rattle.vf_map.specs.declared.located.Located.{Located}
use Rattle.vf_map.specs.declared.located.Located.TheVariants.{Absent, Hole, Register}
use Rattle.vf_map.specs.declared.mapped.Mapped.TheVariants.{Pf}

-- If an offset reaches a register, the register's index is below its row's count.
abbrev pub IsInRange : Located → Type 0
IsInRange Absent = Unit
IsInRange Hole = Unit
IsInRange (Register p) = p.index < (row_of p.row).count

-- No offset of a virtual function is listed twice.
abbrev pub OffsetsHaveOneRegister : Type 0
OffsetsHaveOneRegister =
    (mode : Mode) (v first count : ℕ) → queues_of mode v ≡ Some (first, count) →
    AllPairs (λ e f. e.0 ≢ f.0) (entries v first count)

-- If an offset reaches a register, the offset is mapped to an address of that register, and this address shows all bits
-- of the register's word.
abbrev pub AddressesReadBack : Type 0
AddressesReadBack =
    (mode : Mode) (vfs v offset : ℕ) (p : Place) → located mode vfs v offset ≡ Register p →
    (address : ℕ) × (mapped mode vfs v offset ≡ Pf address) × (place_among runs address ≡ Some p)
    × (view_among runs address ≡ 0xFFFFFFFF)

-- A register that a virtual function reaches belongs to that function's pool, or is STATUS or LINKS.
abbrev pub RegistersAreThePools : Type 0
RegistersAreThePools =
    (mode : Mode) (vfs v offset : ℕ) (p : Place) → located mode vfs v offset ≡ Register p →
    IsTrue (is_of_pool mode v p) ⊎ IsTrue (is_shared p)

-- A register that two virtual functions reach in the same mode is STATUS or LINKS.
abbrev pub FunctionsAreApart : Type 0
FunctionsAreApart =
    (mode : Mode) (vfs v w o r : ℕ) (p : Place) → v ≢ w →
    located mode vfs v o ≡ Register p → located mode vfs w r ≡ Register p → IsTrue (is_shared p)

-- Offsets that reach a register, and the addresses that they are mapped to, are multiples of 4.
abbrev pub AddressesAreAligned : Type 0
AddressesAreAligned =
    (mode : Mode) (vfs v offset address : ℕ) → mapped mode vfs v offset ≡ Pf address →
    (offset % 4 ≡ 0) × (address % 4 ≡ 0)

-- No two pools have a queue in common, and every queue of a pool is below 128.
abbrev pub PoolsAreApart : Type 0
PoolsAreApart =
    (mode : Mode) (v w x y : ℕ) → v < pools_in mode → w < pools_in mode → v ≢ w →
    x < queues_each mode → y < queues_each mode →
    (v * queues_each mode + x ≢ w * queues_each mode + y) × (v * queues_each mode + x < 128)

-- The queue is in a range of queues, given as the first queue and the number of queues.
abbrev pub IsAmong : Option (ℕ × ℕ) → (queue : ℕ) → Type 0
IsAmong None queue = ⊥
IsAmong (Some queues) queue = (queues.0 ≤ queue) × (queue < queues.0 + queues.1)

-- In a mode with pools, each of the 128 queues belongs to exactly one pool.
abbrev pub EachQueueHasOnePool : Type 0
EachQueueHasOnePool =
    (mode : Mode) (queue : ℕ) → mode ≢ Off → queue < 128 →
    (v : ℕ) × (v < pools_in mode) × IsAmong (queues_of mode v) queue
    × ((w : ℕ) → IsAmong (queues_of mode w) queue → w ≡ v)

-- The offsets of a queue's registers depend on the queue's index `x` among the function's queues. The receive registers
-- start at 0x1000 + 0x40 * x and the transmit registers at 0x2000 + 0x40 * x, with the same distances between registers
-- as in the device. Each pair of queues has one vector register: the register for pair `y` is at 0x120 + 4 * y.
pub record QueueRegistersAreThere : Type 0 where
  pub receive : (mode : Mode) (vfs v first count x : ℕ) (row : RowId) → v < vfs →
      queues_of mode v ≡ Some (first, count) → x < count → IsTrue (is_receive row) →
      located mode vfs v (0x1000 + 0x40 * x + distance Rdbal row) ≡ Register (record { row = row; index = first + x })
  pub transmit : (mode : Mode) (vfs v first count x : ℕ) (row : RowId) → v < vfs →
      queues_of mode v ≡ Some (first, count) → x < count → IsTrue (is_transmit row) →
      located mode vfs v (0x2000 + 0x40 * x + distance Tdbal row) ≡ Register (record { row = row; index = first + x })
  pub vectors : (mode : Mode) (vfs v first count x : ℕ) → v < vfs →
      queues_of mode v ≡ Some (first, count) → x < count / 2 →
      located mode vfs v (0x120 + 4 * x) ≡ Register (record { row = Pvtivar; index = first / 2 + x })

-- `pool_of` returns pool v for a queue if and only if the range of queues that `queues_of` returns for v contains the
-- queue.
abbrev pub PoolIsWhereTheQueueIs : Type 0
PoolIsWhereTheQueueIs = (mode : Mode) (v queue : ℕ) → (pool_of mode queue ≡ Some v) ↔ IsAmong (queues_of mode v) queue
