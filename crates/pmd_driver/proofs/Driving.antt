-- Lemmas: properties of a driver follow from the state of its rings.
use Rattle.std.proofs.Common.{◌≡◌, Option, Some, None, Result, Ok, Err, IfOk, IfErr, IfSome, sym, subst}
use Rattle.pmd_driver.specs.Halted.{Halted}
use Rattle.pmd_access.specs.Named.{AtPort}
use Rattle.pmd_access.specs.declared.fault.PmdFault.{PmdFault}
use Rattle.pmd_access.specs.Asks.{fault_in}
use Rattle.pmd_driver.specs.Driver.{Driver, IsDown, halted_of}
use Rattle.pmd_driver.specs.Running.{Running}
use Rattle.pmd_driver.specs.declared.driver.Rings.{Rings}
use Rattle.pmd_driver.specs.declared.driver.Rings.TheVariants.{Up}

-- A running driver isn't down.
pub never_up : (d e : Driver) (r : Running) → d ≡ e → d.rings ≡ Up r → IsDown e.rings → ⊥
never_up d e r is up down =
    subst (λ (x : Rings). IsDown x) up (subst (λ (x : Driver). IsDown x.rings) (sym is) down)

-- A property of a driver's queue and halted rings carries over to an equal driver.
pub stops_as : (P : AtPort → Halted → Type 0) (d e : Driver) (h : Halted) → d ≡ e → h ≡ halted_of d.rings → P d.queue h
    → P e.queue (halted_of e.rings)
stops_as P d e h is same p =
    subst (λ (x : Driver). P x.queue (halted_of x.rings)) is (subst (λ (y : Halted). P d.queue y) same p)

-- Weakens the property of an error.
pub err_later : {T E : Type 0} {P Q : E → Type 0} (r : Result T E) → ((e : E) → P e → Q e) → IfErr r P → IfErr r Q
err_later (Ok x) step p = tt
err_later (Err e) step p = step e p

-- Weakens the property of a successful result.
pub done_later : {T E : Type 0} {P Q : T → Type 0} (r : Result T E) → ((x : T) → P x → Q x) → IfOk r P → IfOk r Q
done_later (Ok x) step p = step x p
done_later (Err e) step p = tt

-- Weakens the property of an optional value.
pub some_later : {T : Type 0} {P Q : T → Type 0} (o : Option T) → ((x : T) → P x → Q x) → IfSome o P → IfSome o Q
some_later None step p = tt
some_later (Some x) step p = step x p

-- A property of an error holds for the fault in the result.
pub some_by : {T : Type 0} (P : PmdFault → Type 0) (r : Result T PmdFault) → IfErr r P → IfSome (fault_in r) P
some_by P (Ok x) by = tt
some_by P (Err f) by = by
