-- Which device queue a queue number at a port identifies, given the pool mode.
use Rattle.std.specs.Prelude.{ℕ, ◌+◌, nat_lt, Option, Some, None, if◌then◌else◌}
use Rattle.pmd_driver.specs.NicDevice.VfMap.Pools.{queues_of}
use Rattle.pmd_driver.specs.NicDevice.VfMap.declared.mode.Mode.{Mode}
use Rattle.pmd_driver.specs.NicDevice.declared.event.Port.{Port}
use Rattle.pmd_driver.specs.NicDevice.declared.event.Port.TheVariants.{Pf, Vf}

-- A pool's queue with this number, counted from the pool's first.
abbrev pub queue_in : Option (ℕ × ℕ) → ℕ → Option ℕ
queue_in None number = None
queue_in (Some queues) number = if nat_lt number queues.1 then Some (queues.0 + number) else None

-- The physical function's queue numbers are the device's; the numbers of one of the `vfs` virtual functions count
-- within its pool.
abbrev pub queue_at : Mode → (vfs : ℕ) → Port → ℕ → Option ℕ
queue_at mode vfs Pf number = if nat_lt number 128 then Some number else None
queue_at mode vfs (Vf v) number = if nat_lt v vfs then queue_in (queues_of mode v) number else None
