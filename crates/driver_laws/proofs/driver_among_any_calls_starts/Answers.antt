use Rattle.driver_laws.proofs.Prelude.{Rxdctl, Sees, arith, false, faults_are_early_or_filling, inr}
use Rattle.driver_laws.proofs.{Beside.never_beside, Prelude.common_steps, Prelude.◌++◌, Shifted.access}
use Rattle.driver_laws.proofs.{Shifted.up_after}

pub returns : Rattle.driver_laws.proofs.driver_among_any_calls_starts.Goals.returns
returns c = record {
  adds = λ q size frame old a new r up.
      let first = access q (Sees Rxdctl false) old _ up.receive.quiet.1 in
      let following = up_after q size frame a r old new up in
      (first.since ++ following.since, first.since, grind (arith, common_steps), first.made);
  filling = λ x filling. never_beside x (inr filling);
  during = λ x e stops is.
      never_beside x (faults_are_early_or_filling x.q x.size x.frame x.old x.a x.new e stops is);
}
