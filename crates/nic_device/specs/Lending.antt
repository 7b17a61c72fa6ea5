-- Memory calls: blocks are lent and taken back, and a driver reads and writes their bytes over the bus, 16 at a time.
use Rattle.std.specs.Prelude.{ℕ, ◌%◌, ◌==◌, List, Option, Some, None, if◌then◌else◌}
use Rattle.std.specs.FinMap as map
use Rattle.rx_ring.specs.DmaArena.Block.{Block}
use Rattle.rx_ring.specs.DmaArena.Memory.{has_block, block_at, is_lent, read_at, write_at}
use Rattle.nic_device.specs.State.{State}
use Rattle.nic_device.specs.Outcome.{Outcome, gives}
use Rattle.nic_device.specs.declared.event.Reply.TheVariants.{Done, Bytes, Buf, Twice, NotLent, Misaligned}

-- A block is lent under its number, unless a block with that number is already lent.
abbrev pub lent : State → Block → Outcome
lent s block =
    if has_block s.memory block.number then gives (Twice block) s
    else gives Done (record s { memory = map.insert s.memory block.number block.bytes })

-- The block with this number, if any, is taken back.
abbrev pub block_taken : State → ℕ → Option Block → Outcome
block_taken s number None = gives NotLent s
block_taken s number (Some block) = gives (Buf block) (record s { memory = map.remove s.memory number })

abbrev pub taken : State → ℕ → Outcome
taken s number = block_taken s number (block_at s.memory number)

-- The 16 bytes at an address are read. The address must be a multiple of 16.
abbrev pub peeked : State → ℕ → Outcome
peeked s address =
    if address % 16 == 0
    then (if is_lent s.memory address 16 then gives (Bytes (read_at s.memory address 16)) s else gives NotLent s)
    else gives Misaligned s

-- 16 bytes are written at an address. The address must be a multiple of 16.
abbrev pub poked : State → ℕ → List ℕ → Outcome
poked s address bytes =
    if address % 16 == 0
    then (
    if is_lent s.memory address 16 then gives Done (record s { memory = write_at s.memory address bytes })
    else gives NotLent s
    )
    else gives Misaligned s
