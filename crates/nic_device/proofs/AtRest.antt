-- Steps that serve a queue at rest change nothing.
use Rattle.std.proofs.Common.{cond, ◌≡◌, ℕ, Bool, true, false, List, [], ◌∷◌, refl}
use Rattle.std.specs.Prelude.{◌&&◌, nat_lt}
use Rattle.std.proofs.lemmas.Bool.{false≢true, or_right}
use Rattle.register_file.specs.Settings.{is_stopped}
use Rattle.register_laws.specs.Sides.{transmit_queue_of}
use Rattle.rx_ring.specs.DmaRing.declared.dir.Dir.{Dir}
use Rattle.nic_device.specs.State.{State, Waiting}
use Rattle.nic_device.specs.Outcome.{Outcome, gives}
use Rattle.nic_device.specs.Receive.{first_received}
use Rattle.nic_device.specs.Resting.{IsIdle, Rests, is_at_rest, is_settled, none_waits}
use Rattle.nic_device.specs.Step.{step_of}
use Rattle.nic_device.specs.Transmit.{is_silent}
use Rattle.nic_device.specs.declared.event.Event.TheVariants as event
use Rattle.nic_device.specs.declared.event.Reply.TheVariants.{Idle}

both : (x y : Bool) → (x && y) ≡ true → (x ≡ true) × (y ≡ true)
both true y e = (refl, e)
both false y e = absurd (false≢true e)

either_same : (b : Bool) (x y : Outcome) → y ≡ x → cond b x y ≡ x
either_same true x y same = refl
either_same false x y same = same

nothing_received : (s : State) (waiting : List Waiting) → none_waits waiting ≡ true
    → first_received s waiting ≡ gives Idle s
nothing_received s [] none = refl
nothing_received s (w ∷ others) none = absurd (false≢true none)

pub side_idle : (s : State) (dir : Dir) (queue : ℕ) → nat_lt queue 128 ≡ true → is_settled s dir queue ≡ true
    → IsIdle s (event.QueueStep dir queue)
unfolding step_of
side_idle s dir queue small settled =
    rw (small, or_right (is_stopped s.registers) (is_settled s dir queue) settled) refl

pub sending_idle : (s : State) (queue : ℕ) → nat_lt queue 128 ≡ true
    → is_silent s queue (transmit_queue_of s.registers queue) ≡ true → IsIdle s (event.TxStep queue)
unfolding step_of
sending_idle s queue small silent = rw (small, silent) refl

pub receiving_idle : (s : State) → none_waits s.waiting ≡ true → IsIdle s event.RxStep
unfolding step_of
receiving_idle s none =
    either_same (is_stopped s.registers) (gives Idle s) (first_received s s.waiting)
    (nothing_received s s.waiting none)

pub at_rest_idle : (s : State) (queue : ℕ) → is_at_rest s queue ≡ true → Rests s queue
at_rest_idle s queue rests =
    let small = both _ _ rests in
    let receive = both _ _ small.1 in
    let transmit = both _ _ receive.1 in
    let others = both _ _ transmit.1 in
    record {
      receive_side = side_idle s _ queue small.0 receive.0;
      transmit_side = side_idle s _ queue small.0 transmit.0;
      sending = sending_idle s queue small.0 others.0;
      receiving = receiving_idle s others.1;
    }
