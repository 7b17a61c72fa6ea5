-- The accesses that a driver makes to a queue's registers, in order, and where they stop.
use Rattle.std.specs.Prelude.{ℕ, ◌≡◌, ◌⊎◌, List, [], ◌∷◌, ◌++◌, Bool, not}
use Rattle.device_lock.specs.NicDevice.declared.event.Event.TheVariants as event
use Rattle.device_lock.specs.NicDevice.declared.event.Reply.TheVariants as reply
use Rattle.device_lock.specs.declared.entry.Call.{Call}
use Rattle.device_lock.specs.NicDevice.RegTable.declared.rows.RowId.{RowId}
use Rattle.device_lock.specs.NicDevice.RegisterFile.Bits.{has_bit}
use Rattle.pmd_access.specs.Made.{Adds, AddsSome}
use Rattle.pmd_access.specs.declared.fault.PmdFault.{PmdFault}
use Rattle.pmd_access.specs.declared.fault.PmdFault.TheVariants.{BadSize, ForeignBlock, StartTimeout, NoBuffer}
use Rattle.pmd_access.specs.declared.fault.PmdFault.TheVariants.{DeviceFault}
use Rattle.pmd_access.specs.declared.fault.PmdFault.TheVariants as fault
use Rattle.pmd_access.specs.Named.{AtPort, IsDriven, IsNumberOf}
-- An access to a register of the queue: a read that shows ENABLE (bit 25) set or clear, or a write of a value.
pub use Rattle.pmd_access.specs.declared.registers.Access.{Access}
pub use Rattle.pmd_access.specs.declared.registers.Access.TheVariants.{Sees, Sets}

-- The register accessed is one that a driver uses and that each queue has.
abbrev pub IsKnown : Access → Type 0
IsKnown (Sees row on) = IsDriven row
IsKnown (Sets row word) = IsDriven row

-- The register was read, and its ENABLE bit is in this state.
abbrev pub IsSeen : AtPort → List Call → List Call → RowId → Bool → Type 0
IsSeen q old new row on =
    (number : ℕ) × (word : ℕ) × IsNumberOf q.port row q.queue number × (has_bit 25 word ≡ on)
    × Adds old new (event.Read q.port number) (reply.Word word)

-- The value was written to the register.
abbrev pub IsSet : AtPort → List Call → List Call → RowId → ℕ → Type 0
IsSet q old new row word =
    (number : ℕ) × IsNumberOf q.port row q.queue number
    × Adds old new (event.Write q.port number word) reply.Done

-- The port has no such register: the read or the write was stray.
abbrev pub IsStrayRead : AtPort → List Call → List Call → RowId → Type 0
IsStrayRead q old new row =
    (number : ℕ) × (word : ℕ) × IsNumberOf q.port row q.queue number
    × Adds old new (event.Read q.port number) (reply.Stray word)

abbrev pub IsStrayWrite : AtPort → List Call → List Call → RowId → ℕ → Type 0
IsStrayWrite q old new row word =
    (number : ℕ) × (reported : ℕ) × IsNumberOf q.port row q.queue number
    × Adds old new (event.Write q.port number word) (reply.Stray reported)

abbrev pub IsMade : AtPort → List Call → List Call → Access → Type 0
IsMade q old new (Sees row on) = IsSeen q old new row on
IsMade q old new (Sets row word) = IsSet q old new row word

-- The access had another result: the read showed ENABLE in the other state or was stray, or the write was stray.
abbrev pub IsOtherwise : AtPort → List Call → List Call → Access → Type 0
IsOtherwise q old new (Sees row on) = IsSeen q old new row (not on) ⊎ IsStrayRead q old new row
IsOtherwise q old new (Sets row word) = IsStrayWrite q old new row word

-- The accesses were made, in order.
abbrev pub AreMade : AtPort → List Call → List Call → List Access → Type 0
AreMade q old new [] = new ≡ old
AreMade q old new (a ∷ rest) = (mid : List Call) × IsMade q old mid a × AreMade q mid new rest

-- The access fails: it had another result (`DeviceFault`), or the call was refused (`Call`) and only device steps were
-- added.
abbrev pub FailsBy : PmdFault → AtPort → List Call → List Call → Access → Type 0
FailsBy BadSize q old new a = ⊥
FailsBy ForeignBlock q old new a = ⊥
FailsBy StartTimeout q old new a = ⊥
FailsBy NoBuffer q old new a = ⊥
FailsBy DeviceFault q old new a = IsOtherwise q old new a
FailsBy (fault.Call refused) q old new a = AddsSome old new

-- Reading the register fails, whichever state was expected: the read was stray (`DeviceFault`), or the call was refused
-- (`Call`) and only device steps were added.
abbrev pub ReadFails : PmdFault → AtPort → List Call → List Call → RowId → Type 0
ReadFails BadSize q old new row = ⊥
ReadFails ForeignBlock q old new row = ⊥
ReadFails StartTimeout q old new row = ⊥
ReadFails NoBuffer q old new row = ⊥
ReadFails DeviceFault q old new row = IsStrayRead q old new row
ReadFails (fault.Call refused) q old new row = AddsSome old new

-- The first of these accesses, possibly none, were made, and the next access fails.
abbrev pub StopsBy : PmdFault → AtPort → List Call → List Call → List Access → Type 0
StopsBy f q old new all =
    (done : List Access) × (a : Access) × (rest : List Access) × (mid : List Call)
    × (all ≡ done ++ a ∷ rest) × AreMade q old mid done × FailsBy f q mid new a
