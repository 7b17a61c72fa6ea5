-- The statuses of calls that run no event or whose event's reply isn't reported, and what else these calls return.
use Rattle.std.specs.Prelude.{ℕ, Bool, Option, Some, None, if◌then◌else◌}
use Rattle.nic_device.specs.DmaArena.Memory.{has_block}
use Rattle.nic_device.specs.DmaArena.Numbers.{is_free}
use Rattle.card.specs.Card.{Holdings}
use Rattle.vf_map.specs.declared.mapped.Mapped.{Mapped}
use Rattle.vf_map.specs.declared.mapped.Mapped.TheVariants as mapped_as

-- The status of a peek that returns this value, or no value.
abbrev pub peek_status : Option ℕ → ℕ
peek_status (Some word) = 0
peek_status None = 1

-- The statuses of lending a block and of taking a block back, if there is enough memory.
abbrev pub lend_status : Holdings → ℕ → ℕ
lend_status c block = if is_free c.arena block then 0 else 37

abbrev pub take_status : Holdings → ℕ → ℕ
take_status c block = if has_block c.device.memory block then 0 else 16

-- The status of a bus access, given whether the bytes are lent.
abbrev pub bus_status : Bool → ℕ
bus_status lent = if lent then 0 else 16

-- The status of mapping a virtual function's offset to an address: 19 if there is no such function, 1 if the function
-- has no register there, otherwise 0.
abbrev pub map_status : Mapped → ℕ
map_status mapped_as.Absent = 19
map_status mapped_as.Hole = 1
map_status (mapped_as.Pf address) = 0

-- The address that an offset maps to, if any.
abbrev pub mapped_address : Mapped → Option ℕ
mapped_address mapped_as.Absent = None
mapped_address mapped_as.Hole = None
mapped_address (mapped_as.Pf address) = Some address
