-- The owner of a register.
use Rattle.std.specs.Prelude.{ℕ, ◌/◌, ◌<◌, ◌==◌, Bool, true, false, ◌&&◌, ⊤}
use Rattle.reg_table.specs.Rows.{row_of}
use Rattle.reg_table.specs.declared.place.Place.{Place}
use Rattle.reg_table.specs.declared.bank.Bank.{Bank}
use Rattle.reg_table.specs.declared.bank.Bank.TheVariants as bank
use Rattle.intr_unit.specs.declared.group.Group.{Group}
use Rattle.intr_unit.specs.declared.group.Group.TheVariants.{Pf, Vf}
use Rattle.register_file.specs.Groups.{index_of}
use Rattle.dma_ring.specs.declared.dir.Dir.{Dir}
use Rattle.dma_ring.specs.declared.dir.Dir.TheVariants.{Rx, Tx}
use Rattle.register_file.specs.declared.owner.Owner.{Owner}
use Rattle.register_file.specs.declared.owner.Owner.TheVariants as owner

-- The owner of the register at an index in a bank. Each pool has 16 words of mailbox memory.
abbrev pub owner_in : Bank → ℕ → Owner
owner_in bank.Device index = owner.Device
owner_in bank.Counters index = owner.Counters
owner_in bank.Receive index = owner.Side Rx index
owner_in bank.Transmit index = owner.Side Tx index
owner_in bank.Interrupts index = owner.Group Pf
owner_in bank.VfInterrupts index = owner.Group (Vf index)
owner_in bank.Pool index = owner.Pool index
owner_in bank.VfCounters index = owner.VfCounters index
owner_in bank.Vectors index = owner.Vectors index
owner_in bank.Messages index = owner.Pool (index / 16)

-- The owner of a place, which the bank of the place's row and the place's index determine.
abbrev pub owner_of : Place → Owner
owner_of p = owner_in (row_of p.row).bank p.index

-- The device has this owner. There are 128 queues, 64 pools with their counters, and 64 words of vectors. There are 65
-- groups: one for the physical function, and one for each of the 64 virtual functions.
abbrev pub IsThere : Owner → Type 0
IsThere owner.Device = ⊤
IsThere owner.Counters = ⊤
IsThere (owner.Side dir queue) = queue < 128
IsThere (owner.Group g) = index_of g < 64
IsThere (owner.Pool number) = number < 64
IsThere (owner.VfCounters number) = number < 64
IsThere (owner.Vectors number) = number < 64

-- Whether two sides, two groups or two owners are equal.
abbrev pub is_dir : Dir → Dir → Bool
is_dir Rx Rx = true
is_dir Rx Tx = false
is_dir Tx Rx = false
is_dir Tx Tx = true

abbrev pub is_group : Group → Group → Bool
is_group Pf Pf = true
is_group Pf (Vf v) = false
is_group (Vf v) Pf = false
is_group (Vf v) (Vf w) = v == w

abbrev pub is_owner : Owner → Owner → Bool
is_owner owner.Device owner.Device = true
is_owner owner.Counters owner.Counters = true
is_owner (owner.Side dir queue) (owner.Side other number) = is_dir dir other && queue == number
is_owner (owner.Group g) (owner.Group h) = is_group g h
is_owner (owner.Pool pool) (owner.Pool number) = pool == number
is_owner (owner.VfCounters own) (owner.VfCounters number) = own == number
is_owner (owner.Vectors own) (owner.Vectors number) = own == number
is_owner own other = false
