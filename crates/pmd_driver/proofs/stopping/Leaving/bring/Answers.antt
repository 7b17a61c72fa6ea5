use Rattle.std.proofs.Common.{refl, sym, subst, arith}
use Rattle.pmd_access.specs.declared.fault.PmdFault.TheVariants as fault
use Rattle.pmd_driver.specs.Halted.{Halted}
use Rattle.pmd_driver.specs.Leaving.{leaving_as}
use Rattle.pmd_driver.specs.Stopping.{IsLeftDuring}
use Rattle.pmd_driver.proofs.Bringing.{stopped_unheld, all_fit}
use Rattle.pmd_driver.proofs.stopping.Leaving.bring.Goals as goal

pub overflow_add-result : goal.overflow_add-result
overflow_add-result g c =
    let fits = all_fit _ _ c.in-Ok.ensures.all (c.requires.home, c.requires.few) in
    omega (arith, fits, c.lost.ensures, c.lost-in-Ok.ensures)

pub of_leaving-requires : goal.of_leaving-requires
of_leaving-requires g c =
    let is = stopped_unheld _ _ c.in-Err.ensures.stopped (c.requires.home, c.requires.few) in
    record { home = is.0; few = is.1 }

pub returns-in-Err-clause-failed : goal.returns-in-Err-clause-failed
returns-in-Err-clause-failed g c =
    subst (λ (left : Halted). IsLeftDuring (fault.Call c.in-Err.fault) (g.N.Nic.made c.args.nic.now)
    (leaving_as c.args.self) (g.N.Nic.made c.bring_both.new.nic) left) (sym c.of_leaving.ensures)
    (c.in-Err.fault, refl, c.in-Err.ensures.stopped, refl)
