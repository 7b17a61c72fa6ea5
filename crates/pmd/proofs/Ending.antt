-- Lemmas about the first of two faults.
use Rattle.std.proofs.Common.{◌≡◌, true, false, Option, Some, None, Result, Ok, Err, IfErr, IfSome, IfNone, refl}
use Rattle.pmd_driver.specs.PmdAccess.declared.fault.PmdFault.{PmdFault}
use Rattle.pmd_driver.specs.declared.start.Rest.{Rest}
use Rattle.pmd.specs.Ended.{first_fault, is_home, is_shut_out, is_threadless}
use Rattle.pmd.specs.declared.fault.WorkerFault.{WorkerFault}

-- If the first of two faults is none, the stop had no fault.
pub home_without : (worked : Result (Unit {0}) WorkerFault) (late : Option PmdFault) (rest : Rest)
    → IfNone late (is_home rest ≡ true) → IfNone (first_fault worked late) (is_home rest ≡ true)
home_without (Err fault) late rest home = tt
home_without (Ok done) None rest home = home
home_without (Ok done) (Some fault) rest home = tt

pub had_thread : (worked : Result (Unit {0}) WorkerFault) (late : Option PmdFault)
    → IfErr worked (λ (f : WorkerFault). is_threadless f ≡ false)
    → IfSome (first_fault worked late) (λ (f : WorkerFault). is_threadless f ≡ false)
had_thread (Err fault) late had = had
had_thread (Ok done) None had = tt
had_thread (Ok done) (Some fault) had = refl

-- A fault in the stop is never that the gate was shut.
pub shut_out : (worked : Result (Unit {0}) WorkerFault) (late : Option PmdFault) (T : Type 0)
    → IfErr worked (λ (f : WorkerFault). is_shut_out f ≡ true → T)
    → IfSome (first_fault worked late) (λ (f : WorkerFault). is_shut_out f ≡ true → T)
shut_out (Err fault) late T shut = shut
shut_out (Ok done) None T shut = tt
shut_out (Ok done) (Some fault) T shut = λ is. absurd (let e : false ≡ true = is in cc)
