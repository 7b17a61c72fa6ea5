use Rattle.driver_laws.proofs.Prelude.{◌∙◌, HasNoneOut, Rings, accepted_of, ap, bytes_of, handed_of, subst}
use Rattle.driver_laws.proofs.{Reported.goes, Reported.life, Reported.none_before, Reported.none_first, Reported.up_next}
use Rattle.driver_laws.{proofs.Order.handed, proofs.Order.idle, proofs.Order.ran, proofs.Order.sent_first}
use Rattle.driver_laws.{specs.Reported.now}

pub returns : Rattle.driver_laws.proofs.driver_in_order.Goals.returns
returns c = record {
  handed = λ x lived. rw (goes x).up (handed (ran (life x)) lived);
  none = λ x n y.
      let (s, up, looks) = up_next _ (now x).driver.rings n.driver.rings (goes x).rings (goes x).up y.looks in
      ap handed_of (goes x).up ∙ none_before (life x) y.look (λ since is. is) looks;
  first = λ x n y before more all is.
      let (s, up, looks) = up_next _ (now x).driver.rings n.driver.rings (goes x).rings (goes x).up y.looks in
      ap handed_of (goes x).up ∙ none_first (life x) y.look (λ since is. is) looks before more all is;
  sent = λ x lived. rw (goes x).up (sent_first (ran (life x)) lived);
  idle = λ x lived none.
      ap (λ (z : Rings). bytes_of (accepted_of z)) (goes x).up
      ∙ idle (ran (life x)) lived (subst HasNoneOut (goes x).up none);
}
