use Rattle.driver_laws.proofs.Prelude.{Rings, accepted_of, ap, bytes_of, sym, ◌∙◌}
use Rattle.driver_laws.{proofs.Reported.goes, proofs.Reported.life, proofs.Reported.up_next, proofs.Reported.waiting_first}
use Rattle.driver_laws.{specs.Reported.now}

pub returns : Rattle.driver_laws.proofs.waiting_look_leaves_some_unsent.Goals.returns
returns c = record {
  before = λ x new v y. waiting_first x y.look (λ since is. is) y.looks;
  reported = λ x n y before more all is same.
      let (s, up, looks) = up_next _ (now x).driver.rings n.driver.rings (goes x).rings (goes x).up y.waits in
      waiting_first (life x) y.look (λ since is. is) looks before more all is
      (ap (λ (z : Rings). bytes_of (accepted_of z)) (sym (goes x).up) ∙ same);
}
