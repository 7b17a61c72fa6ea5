-- Lemmas: what the contract of a driver's stop states about the point where the stop had switched both sides off. It
-- follows that nothing is delivered or sent after that point.
use Rattle.driver_laws.proofs.Prelude.{AtPort, Call, Ends, Halted, IsAsking, IsSwitched, List, PmdFault, Rest, Up}
use Rattle.driver_laws.proofs.Prelude.{calls_of, closed, common_steps, false, halted_of, inr, none_made, refl, subst}
use Rattle.driver_laws.proofs.Prelude.{◌++◌, ◌≡◌}
use Rattle.driver_laws.proofs.{Order.ends, Prelude.IsStopped, Prelude.Option, Prelude.Some, Prelude.after}
use Rattle.driver_laws.proofs.{Prelude.arith, Prelude.calls_joined, Prelude.left, Prelude.sym, StopCalls.during_ends}
use Rattle.driver_laws.proofs.{StopCalls.first_made, StopCalls.once_of, Stopped.here, Stopped.is_stopping, Stopped.life}
use Rattle.driver_laws.proofs.{Stopped.silent_off}
use Rattle.driver_laws.{proofs.Prelude.IsEnding, proofs.Prelude.None, proofs.StopCalls.home_ends}
use Rattle.driver_laws.{specs.Silent.SwitchesOff}
use Rattle.pmd_driver.specs.declared.start.Rest.TheVariants as rest

-- Lemmas about the contract of a driver's stop.

module _ (q : AtPort) (old : List Call) (h : Halted) (new : List Call) where
  abbrev GoesOff : List Call → Type 0
  GoesOff off = IsSwitched q old off false 1000 × Ends q off new

  switches_off : (left : Rest) (late : Option PmdFault) (x : IsStopped q old h new left late) (off : List Call)
      → SwitchesOff q old h new left late x off → GoesOff off
  switches_off (rest.Home home) None (mid, switched, comes) off is =
      subst GoesOff (sym is) (switched, home_ends q mid (closed h) new home comes)
  switches_off (rest.Running p) (Some f) (after, same, inr (inr (mid, switched, during))) off is =
      subst GoesOff (sym is) (switched, during_ends q mid (closed h) new f after during)
  switches_off left late x off is = absurd is

pub returns : Rattle.driver_laws.proofs.switched_off_queue_is_silent.Goals.returns
returns c = record {
  once = λ x new done rest y z. silent_off x new y z done rest;
  over = λ x off done rest y stop all calls.
      let made = x.lived.made in
      let (switched, ends) = switches_off x.q made (halted_of (Up x.lived.last)) x.new x.left x.late x.lived.stopped off
      stop in
      let later = calls_of x.w.pass rest in
      let on : here x y ≡ off ++ later = grind (arith, common_steps, calls_joined) in
      let z = once_of x.q made (here x y) made off (none_made (IsAsking x.q) made made refl) switched
      (first_made (IsEnding x.q) off (here x y) x.new later y.rest ends on y.all) in
      silent_off (life x) (here x y) (is_stopping x y) z done rest all calls;
}
