-- What each driver call leaves unchanged in the `Nic` that it uses, whatever accesses it makes.
use Rattle.std.specs.Prelude.{◌≡◌, Option, Some, None, Result, Ok, Err, IfSome}
use Rattle.pmd_access.specs.Begun.{BeganAs, Origin}
use Rattle.pmd_access.specs.Refusals.{CanFail, Refusals}
use Rattle.pmd_access.specs.declared.fault.PmdFault.{PmdFault}

-- The fault that ended a call, if any.

abbrev pub fault_in : {A : Type 0} → Result A PmdFault → Option PmdFault
fault_in (Ok x) = None
fault_in (Err f) = Some f

abbrev pub refused_in : {A B : Type 0} → Result A (PmdFault × B) → Option PmdFault
refused_in (Ok x) = None
refused_in (Err x) = Some x.0

-- Everything known about where the `Nic`'s calls began is still known, and the `Nic` may refuse calls for the same
-- reasons as before. If the driver call failed because the `Nic` refused a call, it refused the call for one of these
-- reasons.
pub record Asks {N : Type 0} (known : N → Origin → Type 0) (may : N → Refusals) (f : Option PmdFault) (n m : N) : Type 0
  where
    pub began : BeganAs known n m
    pub refuses : may m ≡ may n
    pub refusal : IfSome f (λ f. CanFail (may m) f)
