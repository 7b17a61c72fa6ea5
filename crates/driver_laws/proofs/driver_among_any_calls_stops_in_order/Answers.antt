use Rattle.driver_laws.proofs.Prelude.{Beside, Call, IsEnding, IsStopping, List, ap, append_cancel_left, arith}
use Rattle.driver_laws.proofs.Prelude.{common_steps, now, refl, same_delivers, same_sends, sym, ◌++◌, ◌∙◌, ◌≡◌}
use Rattle.driver_laws.proofs.StopCalls.{first_takes, made_first, once_off_shift, takes_shift}
use Rattle.driver_laws.proofs.{Shifted.shifted, Stopped.over_stop, Stopped.sent_over, Stopped.silent_off}
use Rattle.driver_laws.{proofs.Beside.own_life, proofs.Beside.rings_up, specs.BesideStop.IsStoppedBeside}

-- What the calls of the stop report concerns only the calls that they add.
stopping : (x : Beside) (new : List Call) (y : IsStoppedBeside x new) → IsStopping (own_life x) (x.own ++ y.since)
stopping x new y =
    let ends = made_first (IsEnding x.q) (now x).made new y.since y.rest y.ends y.made in
    record { ends = (y.since, refl, ends); calls = y.calls }

pub returns : Rattle.driver_laws.proofs.driver_among_any_calls_stops_in_order.Goals.returns
returns c = record {
  handed = λ x new y.
      rw (rings_up x, same_delivers x.w.queue x.origin x.h x.g x.retagged.was.same)
      (over_stop (own_life x) (x.own ++ y.since) (stopping x new y)).ahead;
  sent = λ x new y takes.
      let made = (now x).made in
      rw (rings_up x, same_sends x.w.queue x.origin x.h x.g x.retagged.was.same)
      (sent_over (own_life x) (x.own ++ y.since) (stopping x new y)
      (shifted
      (takes_shift x.q made (made ++ y.since)
      (first_takes x.q made (made ++ y.since) new y.since y.rest refl y.made takes)) y.since x.own refl));
  silent = λ x new y z off there done rest early all is same.
      let (at, was, shifts) = once_off_shift x.q (now x).made ((now x).made ++ y.since) z in
      let now = shifted shifts y.since x.own refl in
      let places : off ≡ at = append_cancel_left _ off at (sym there ∙ was) in
      let quiet = silent_off (own_life x) (x.own ++ y.since) (stopping x new y) now.0 done rest all
      (is ∙ ap (λ (l : List Call). x.own ++ l) places ∙ sym now.1) in
      let all = x.retagged.was.same in
      record {
        delivered = grind (arith, common_steps, same_delivers);
        sent = rw (same_sends x.w.queue x.origin x.h x.g all, same_sends x.w.queue x.origin early done same) quiet.sent;
      };
}
