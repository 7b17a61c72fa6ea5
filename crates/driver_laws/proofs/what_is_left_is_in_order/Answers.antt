use Rattle.driver_laws.proofs.Stopped.{life, over_stop, sent_over}
use Rattle.driver_laws.proofs.{Order.handed, Order.ran, Order.sent_first, Prelude.Up, Prelude.halted_of, Prelude.refl}
use Rattle.driver_laws.proofs.{StopCalls.first_takes, StopCalls.stopped_takes, Stopped.here, Stopped.is_stopping}

pub returns : Rattle.driver_laws.proofs.what_is_left_is_in_order.Goals.returns
returns c = record {
  before = λ x calls. (
    rw x.lived.handed (handed (ran (life x)) calls),
    rw x.lived.accepted (sent_first (ran (life x)) calls),
  );
  handed = λ x y. rw x.lived.handed (over_stop (life x) (here x y) (is_stopping x y)).ahead;
  sent = λ x y.
      rw x.lived.accepted (sent_over (life x) (here x y) (is_stopping x y)
      (first_takes x.q x.lived.made (here x y) x.new y.since y.rest refl y.all
      (stopped_takes x.q x.lived.made (halted_of (Up x.lived.last)) x.new x.left x.late x.lived.stopped)));
}
