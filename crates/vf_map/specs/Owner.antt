-- Which pool a place of the device belongs to.
use Rattle.std.specs.Prelude.{ℕ, ◌*◌, ◌/◌, ◌==◌, ◌||◌, Bool, true, false, Option, Some, None}
use Rattle.reg_table.specs.Rows.{row_of, number_of}
use Rattle.reg_table.specs.declared.place.Place.{Place}
use Rattle.reg_table.specs.declared.rows.RowId.{RowId}
use Rattle.reg_table.specs.declared.rows.RowId.TheVariants.{Status, Links}
use Rattle.reg_table.specs.declared.bank.Bank.{Bank}
use Rattle.reg_table.specs.declared.bank.Bank.TheVariants as bank
use Rattle.vf_map.specs.Pools.{pool_of}
use Rattle.vf_map.specs.declared.mode.Mode.{Mode}

-- Whether the pool is pool `v`.
abbrev pub is_pool : (v : ℕ) → Option ℕ → Bool
is_pool v None = false
is_pool v (Some pool) = pool == v

-- Whether a queue of the device belongs to pool `v`.
abbrev pub has_queue : Mode → (v queue : ℕ) → Bool
has_queue mode v queue = is_pool v (pool_of mode queue)

-- Whether the register at this index of a bank belongs to pool `v`. A vector register serves two queues, which belong
-- to one pool. Each pool has 16 words of the mailbox memory.
abbrev pub is_of_pool_by : Bank → Mode → (v index : ℕ) → Bool
is_of_pool_by bank.Device mode v index = false
is_of_pool_by bank.Counters mode v index = false
is_of_pool_by bank.Receive mode v index = has_queue mode v index
is_of_pool_by bank.Transmit mode v index = has_queue mode v index
is_of_pool_by bank.Interrupts mode v index = false
is_of_pool_by bank.VfInterrupts mode v index = index == v
is_of_pool_by bank.Pool mode v index = index == v
is_of_pool_by bank.Vectors mode v index = has_queue mode v (2 * index)
is_of_pool_by bank.Messages mode v index = index / 16 == v
is_of_pool_by bank.VfCounters mode v index = index == v

-- Whether a place belongs to pool `v`.
abbrev pub is_of_pool : Mode → (v : ℕ) → Place → Bool
is_of_pool mode v p = is_of_pool_by (row_of p.row).bank mode v p.index

-- Whether a place is STATUS or LINKS, which all virtual functions reach and no write changes.
abbrev pub is_shared : Place → Bool
is_shared p = (number_of p.row == number_of Status) || (number_of p.row == number_of Links)

-- Whether a bank or row belongs to a queue's receive side (`is_receive`) or transmit side (`is_transmit`).
abbrev pub is_receive_bank : Bank → Bool
is_receive_bank bank.Device = false
is_receive_bank bank.Counters = false
is_receive_bank bank.Receive = true
is_receive_bank bank.Transmit = false
is_receive_bank bank.Interrupts = false
is_receive_bank bank.VfInterrupts = false
is_receive_bank bank.Pool = false
is_receive_bank bank.Vectors = false
is_receive_bank bank.Messages = false
is_receive_bank bank.VfCounters = false

abbrev pub is_receive : RowId → Bool
is_receive row = is_receive_bank (row_of row).bank

abbrev pub is_transmit_bank : Bank → Bool
is_transmit_bank bank.Device = false
is_transmit_bank bank.Counters = false
is_transmit_bank bank.Receive = false
is_transmit_bank bank.Transmit = true
is_transmit_bank bank.Interrupts = false
is_transmit_bank bank.VfInterrupts = false
is_transmit_bank bank.Pool = false
is_transmit_bank bank.Vectors = false
is_transmit_bank bank.Messages = false
is_transmit_bank bank.VfCounters = false

abbrev pub is_transmit : RowId → Bool
is_transmit row = is_transmit_bank (row_of row).bank
