use Rattle.driver_laws.proofs.{Faultless.never_at_fault, Prelude.faults_are_early_or_filling, Prelude.inr}

pub returns : Rattle.driver_laws.proofs.no_start_finds_the_device_at_fault.Goals.returns
returns c = record {
  filling = λ x f. never_at_fault x (inr f);
  during = λ x e stops is.
      never_at_fault x (faults_are_early_or_filling x.q x.size x.frame x.old x.a x.new e stops is);
}
