-- The accesses that a driver makes. Each adds a call with one of its possible replies.
use Rattle.std.specs.Prelude.{ℕ, Bool, true, false, ◌⊎◌, List, Option, Some, None}
use Rattle.device_lock.specs.NicDevice.DmaArena.Block.{Block}
use Rattle.device_lock.specs.NicDevice.declared.event.Event.TheVariants as event
use Rattle.device_lock.specs.NicDevice.declared.event.Port.{Port}
use Rattle.device_lock.specs.NicDevice.declared.event.Reply.TheVariants as reply
use Rattle.device_lock.specs.declared.entry.Call.{Call}
use Rattle.pmd_access.specs.Made.{Adds}

-- The register was read, or the port has no register with this number and the read was stray.
abbrev pub IsRead : List Call → List Call → Port → ℕ → Option ℕ → Type 0
IsRead old new port number (Some word) = Adds old new (event.Read port number) (reply.Word word)
IsRead old new port number None = (seen : ℕ) × Adds old new (event.Read port number) (reply.Stray seen)

-- The register was written, or the port has no register with this number and the write was stray.
abbrev pub IsWritten : List Call → List Call → Port → ℕ → ℕ → Bool → Type 0
IsWritten old new port number word true = Adds old new (event.Write port number word) reply.Done
IsWritten old new port number word false =
    (seen : ℕ) × Adds old new (event.Write port number word) (reply.Stray seen)

-- The block was lent, or a block with this number was already lent and a block was returned.
abbrev pub IsLent : List Call → List Call → Block → Option Block → Type 0
IsLent old new block None = Adds old new (event.Lend block) reply.Done
IsLent old new block (Some back) = Adds old new (event.Lend block) (reply.Twice back)

-- The block was taken back, or no block with this number was lent.
abbrev pub IsTaken : List Call → List Call → ℕ → Option Block → Type 0
IsTaken old new number (Some block) = Adds old new (event.Take number) (reply.Buf block)
IsTaken old new number None = Adds old new (event.Take number) reply.NotLent

-- The 16 bytes were read, or these bytes aren't lent, or the address isn't a multiple of 16.
abbrev pub IsPeeked : List Call → List Call → ℕ → Option (List ℕ) → Type 0
IsPeeked old new address (Some bytes) = Adds old new (event.Peek16 address) (reply.Bytes bytes)
IsPeeked old new address None =
    Adds old new (event.Peek16 address) reply.NotLent ⊎ Adds old new (event.Peek16 address) reply.Misaligned

-- The 16 bytes were written, or these bytes aren't lent, or the address isn't a multiple of 16.
abbrev pub IsPoked : List Call → List Call → ℕ → List ℕ → Bool → Type 0
IsPoked old new address bytes true = Adds old new (event.Poke16 address bytes) reply.Done
IsPoked old new address bytes false =
    Adds old new (event.Poke16 address bytes) reply.NotLent
    ⊎ Adds old new (event.Poke16 address bytes) reply.Misaligned
