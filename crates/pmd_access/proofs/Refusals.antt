-- Lemmas about why calls are refused.
use Rattle.std.proofs.Common.{◌≡◌, Bool, true, IsTrue, refl, sym, ap, subst, Result, Ok, Err, IfErr, OnErr}
use Rattle.device_lock.specs.declared.fault.CallFault.{CallFault}
use Rattle.device_lock.specs.declared.fault.CallFault.TheVariants.{ForeignPass, HistoryFull, OutOfMemory}
use Rattle.device_lock.specs.Fault.{event_of}
use Rattle.pmd_access.specs.Refusals.{Refusals, CanRefuse}

-- A fact that always holds also holds if the result is an error.
pub on_err : {T E P : Type 0} (r : Result T E) → P → OnErr r P
on_err (Ok x) p = tt
on_err (Err e) p = p

-- Any `Nic` may report a lack of memory.
pub memory_refuses : {A E : Type 0} (e : E) (r : Result A (CallFault E)) (way : Refusals)
    → IfErr r (λ f. f ≡ OutOfMemory e) → IfErr r (λ f. CanRefuse way f)
memory_refuses e (Ok x) way is = tt
memory_refuses {E = E} e (Err f) way is = subst (λ (g : CallFault E). CanRefuse way g) (sym is) tt

-- A `Nic` that keeps a history may report a full history, and a foreign pass if its pass is foreign.
pub lock_refuses : {A E : Type 0} (foreign : Bool) (e : E) (r : Result A (CallFault E))
    → (r ≡ Err (ForeignPass e) → IsTrue foreign) → IfErr r (λ f. event_of f ≡ e)
    → IfErr r (λ f. CanRefuse (record { foreign = foreign; full = true }) f)
lock_refuses foreign e (Ok x) only back = tt
lock_refuses {A = A} {E = E} foreign e (Err (ForeignPass x)) only back =
    only (ap (λ (y : E). let r : Result A (CallFault E) = Err (ForeignPass y) in r) back)
lock_refuses foreign e (Err (HistoryFull x)) only back = refl
lock_refuses foreign e (Err (OutOfMemory x)) only back = tt
