use Rattle.driver_laws.proofs.Order.{handed, idle, none, ran, sent_first, taken}

pub returns : Rattle.driver_laws.proofs.life_in_order.Goals.returns
returns c = record {
  handed = λ x. handed (ran x);
  taken = λ x. taken (ran x);
  none = λ x. none (ran x);
  sent = λ x. sent_first (ran x);
  idle = λ x. idle (ran x);
}
