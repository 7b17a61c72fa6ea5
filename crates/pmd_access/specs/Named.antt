-- The numbers of a queue's registers at a port.
use Rattle.std.specs.Prelude.{ℕ, ◌≡◌, ◌+◌, ◌*◌, ◌<◌, ◌≤◌, Bool, true, false, if◌then◌else◌}
use Rattle.device_lock.specs.NicDevice.declared.event.Port.{Port}
use Rattle.device_lock.specs.NicDevice.declared.event.Port.TheVariants.{Pf, Vf}
use Rattle.device_lock.specs.NicDevice.RegTable.Rows.{row_of}
use Rattle.device_lock.specs.NicDevice.RegTable.declared.rows.RowId.{RowId}
use Rattle.device_lock.specs.NicDevice.RegTable.declared.rows.RowId.TheVariants.{Rdbal, Rdbah, Rdlen, Rdh, Srrctl, Rdt, Rxdctl, Tdbal, Tdbah, Tdlen, Tdh, Tdt, Txdctl, Tdwbal}
use Rattle.device_lock.specs.NicDevice.VfMap.Map.{distance}
use Rattle.device_lock.specs.NicDevice.VfMap.Owner.{is_receive}
use Rattle.pmd_access.specs.Setup.{IsAddressOf}

-- The number of queues that a port can address: 128 through the physical function, 64 through a virtual function.
abbrev pub queues_named : Port → ℕ
queues_named Pf = 128
queues_named (Vf v) = 64

-- A queue at a port.
pub record AtPort : Type 0 where
  pub port : Port
  pub queue : ℕ

abbrev pub CanName : AtPort → Type 0
CanName q = q.queue < queues_named q.port

-- The queue registers that a driver uses.
abbrev pub is_driven : RowId → Bool
is_driven Rdbal = true
is_driven Rdbah = true
is_driven Rdlen = true
is_driven Rdh = true
is_driven Srrctl = true
is_driven Rdt = true
is_driven Rxdctl = true
is_driven Tdbal = true
is_driven Tdbah = true
is_driven Tdlen = true
is_driven Tdh = true
is_driven Tdt = true
is_driven Txdctl = true
is_driven Tdwbal = true
is_driven other = false

-- The driver uses this register, and each of the device's 128 queues has it.
abbrev pub IsDriven : RowId → Type 0
IsDriven row = (is_driven row ≡ true) × (128 ≤ (row_of row).count)

-- The offset of a register that belongs to a virtual function's own queue. Each side of a queue takes 64 bytes, with
-- its registers as far apart as in the physical function's address map.
abbrev pub offset_of : RowId → ℕ → ℕ
offset_of row queue =
    if is_receive row then 0x1000 + 0x40 * queue + distance Rdbal row else 0x2000 + 0x40 * queue + distance Tdbal row

-- The number of a queue's register at a port: the register's first address for the physical function, or the register's
-- offset for a virtual function.
abbrev pub IsNumberOf : Port → RowId → ℕ → ℕ → Type 0
IsNumberOf Pf row queue number = IsAddressOf number (record { row = row; index = queue })
IsNumberOf (Vf v) row queue number = number ≡ offset_of row queue
