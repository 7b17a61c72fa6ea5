-- Which pools may send, according to VFTE.
use Rattle.std.proofs.Common.{ℕ, ◌+◌, ◌*◌, ◌/◌, ◌%◌, sym, ◌∙◌, arith, lit<}
use Rattle.nic_device.specs.RegTable.declared.rows.RowId.TheVariants.{VtCtl, Vfte}
use Rattle.nic_device.proofs.VfMap.Numbers.{few_pools, placed}
use Rattle.device_laws.proofs.Muting.{muted_idle}
use Rattle.datasheet_laws.specs.Prelude.{mode_in, place}
use Rattle.datasheet_laws.proofs.Prelude.{first_address}
use Rattle.datasheet_laws.specs.Queues.{VfteMutesPools}
use Rattle.datasheet_laws.proofs.Addresses.{address_of}
use Rattle.datasheet_laws.proofs.Pools.{is_in}
use Rattle.datasheet_laws.proofs.Words.{whole-read}

pub mutes : VfteMutesPools
mutes s h uses pool x queue inside own is off =
    let in_it = is_in s h pool x queue inside own is in
    let below = few_pools (mode_in s.registers) pool in_it.pool in
    let there = placed (mode_in s.registers) pool x queue in_it in
    let p = place Vfte (pool / 32) in
    let a : ℕ = 0x08110 + 4 * (pool / 32) in
    let vt = whole-read s 0x051B0 0 (place VtCtl 0)
    (address_of (place VtCtl 0) 0x051B0 (first_address (place VtCtl 0) (lit< tt))) (omega arith) in
    let bit = whole-read s a (pool % 32) p (address_of p a (first_address p (omega arith))) (omega arith) in
    muted_idle s (sym vt ∙ uses) queue pool there.small there.pool
    (sym bit ∙ off)
