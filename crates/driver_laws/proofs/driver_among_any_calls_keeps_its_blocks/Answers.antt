use Rattle.driver_laws.proofs.Beside.{alone, none_beside, rings_up, same_rings, reported, reported_of}
use Rattle.driver_laws.proofs.Prelude.{Beside, State, [], ap, append-nil, memory_after, now, same_leads, sym, ◌≡◌}
use Rattle.driver_laws.proofs.Reported.{goes, up_next}
use Rattle.driver_laws.proofs.{Faultless.burst_during, Lent.each_in_one_place, Lent.lent_is_out, Lent.out_is_lent}

same_memory : (x : Beside) → memory_after x.origin x.h ≡ memory_after x.origin x.g
same_memory x = ap (λ (s : State). s.memory) (same_leads x.origin x.h x.g x.retagged.was.same)

pub returns : Rattle.driver_laws.proofs.driver_among_any_calls_keeps_its_blocks.Goals.returns
returns c = record {
  finds = λ x n finds y.
      let r = (goes (reported x)).rings in
      let (s, up, f) = up_next _ (now x).driver.rings n.driver.rings r (rings_up x) finds in
      none_beside x n y (n.made, [], sym (append-nil n.made), f);
  meets = λ x n meets y.
      let r = (goes (reported x)).rings in
      let (s, up, sends) = up_next _ (now x).driver.rings n.driver.rings r (rings_up x) meets in
      none_beside x n y (burst_during r s (now x).made n.made sends);
  lent = λ x is. rw (same_rings x, same_memory x) (out_is_lent (reported x) (reported_of x is));
  known = λ x y. rw (same_rings x, same_memory x) (lent_is_out (reported x) (alone x y));
  once = λ x y. rw (same_rings x, same_memory x) (each_in_one_place (reported x) (alone x y));
}
