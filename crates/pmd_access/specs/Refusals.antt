-- Why a `Nic` may refuse calls.
use Rattle.std.specs.Prelude.{Bool, false, IsTrue, ⊤}
use Rattle.device_lock.specs.declared.fault.CallFault.{CallFault}
use Rattle.device_lock.specs.declared.fault.CallFault.TheVariants.{ForeignPass, HistoryFull, OutOfMemory}
use Rattle.pmd_access.specs.declared.fault.PmdFault.{PmdFault}
use Rattle.pmd_access.specs.declared.fault.PmdFault.TheVariants as fault

-- Whether the `Nic` uses a foreign pass, and whether it keeps a history that may become full.
pub record Refusals : Type 0 where
  pub foreign : Bool
  pub full : Bool

-- A device in hand refuses calls only for lack of memory.
abbrev pub memory_alone : Refusals
memory_alone = record { foreign = false; full = false }

-- The `Nic` may refuse a call for this reason. Any `Nic` may refuse a call for lack of memory.
abbrev pub CanRefuse : {E : Type 0} → Refusals → CallFault E → Type 0
CanRefuse way (ForeignPass event) = IsTrue way.foreign
CanRefuse way (HistoryFull event) = IsTrue way.full
CanRefuse way (OutOfMemory event) = ⊤

-- If the driver fails because a call was refused, the refusal has a reason for which this `Nic` may refuse calls.
abbrev pub CanFail : Refusals → PmdFault → Type 0
CanFail way (fault.Call refusal) = CanRefuse way refusal
CanFail way fault.BadSize = ⊤
CanFail way fault.ForeignBlock = ⊤
CanFail way fault.StartTimeout = ⊤
CanFail way fault.NoBuffer = ⊤
CanFail way fault.DeviceFault = ⊤
