-- What a receive step reports about its queue.
use Rattle.std.proofs.Common.{◌≡◌, ◌<◌, ℕ, List, ◌∷◌, refl, ap, sym, ◌∙◌, subst, arith}
use Rattle.std.specs.Prelude.{⊤}
use Rattle.nic_device.specs.IntrUnit.declared.group.Group.TheVariants as group
use Rattle.nic_device.proofs.RxRing.Fills.{takes_piece}
use Rattle.nic_device.proofs.RegisterLaws.SideWords.{receive-with_head}
use Rattle.nic_device.proofs.RegisterLaws.Switches.{receive-shut}
use Rattle.nic_device.specs.Footprint.{counts_and_causes}
use Rattle.nic_device.specs.Interrupt.{raised_by, side_failed, fault_cause}
use Rattle.device_laws.specs.Prelude.{AreWaiting, ChangesWithin, Filled, IsSound, Outcome, Qprc, Registers, Rx, State}
use Rattle.device_laws.specs.Prelude.{Vfgprc, Waiting, counter_of, frame_counted, function_of_queue, pending}
use Rattle.device_laws.specs.Prelude.{piece_done, receive_queue_of, ring_of, shut, slots_of, step_of, with_head}
use Rattle.device_laws.proofs.Prelude.{counted_in, either_way, function_counted_in, raised_by_queue, receive_stands}
use Rattle.device_laws.proofs.Prelude.{received_cases, within-causes_raised, within-refl}
use Rattle.device_laws.specs.Leaving.{IsFirstFor}
use Rattle.device_laws.specs.Replies.{received_tells, ReceivingTells}
use Rattle.device_laws.proofs.Missed.{counts-miss_side, pending-misses_side}
use Rattle.nic_device.proofs.Raising.{comes-itself, have_counters, have_functions, have_causes}

-- A written piece changes only the head, counters and causes.
piece_rest : (r : Registers) (vfs queue : ℕ) (f : Filled)
    → ChangesWithin counts_and_causes (with_head r Rx queue f.head) (piece_done r vfs queue f)
piece_rest r vfs queue f =
    let moved = with_head r Rx queue f.head in
    let ended = frame_counted moved vfs queue in
    either_way (ChangesWithin counts_and_causes moved) f.end (raised_by ended vfs Rx queue) moved
    (raised_by_queue {good = ⊤} counts_and_causes moved ended vfs Rx queue have_causes
    (function_counted_in counts_and_causes moved _ (function_of_queue moved vfs queue) Vfgprc have_functions
    (record { bank = refl; kind = refl })
    (counted_in counts_and_causes moved moved Qprc (counter_of moved Rx queue) have_counters
    (record { bank = refl; kind = refl }) (comes-itself counts_and_causes moved)))).within
    (within-refl counts_and_causes moved)

module _ (s : State) (h : IsSound s) (w : Waiting) (others : List Waiting) (e : s.waiting ≡ w ∷ others) where
  waits_first : IsFirstFor w.queue s.waiting
  waits_first = subst (IsFirstFor w.queue) (sym e) refl

  queue_small : w.queue < 128
  queue_small = (subst AreWaiting e h.waiting).0.queue

  side_filled : (f : Filled) → f.head < slots_of (ring_of s.registers Rx w.queue)
      → receive_queue_of (piece_done s.registers s.vfs w.queue f) w.queue
      ≡ record (receive_queue_of s.registers w.queue) {
        ring = record (ring_of s.registers Rx w.queue) { head = f.head };
      }
  side_filled f inside =
      receive_stands counts_and_causes _ _ w.queue (counts-miss_side Rx w.queue)
      (piece_rest s.registers s.vfs w.queue f)
      ∙ receive-with_head s.registers h.registers.shape w.queue queue_small f.head (omega arith)

  side_shut : receive_queue_of (side_failed s.registers Rx w.queue) w.queue
      ≡ receive_queue_of (shut s.registers Rx w.queue) w.queue
  side_shut =
      receive_stands (pending group.Pf) _ _ w.queue (pending-misses_side group.Pf Rx w.queue)
      (within-causes_raised (shut s.registers Rx w.queue) group.Pf fault_cause)

abbrev Tells : State → Outcome → Type 0
Tells s o = received_tells o.reply s o.state

pub receiving_tells : ReceivingTells
unfolding step_of
receiving_tells s h = received_cases (Tells s) s (record {
  idle = tt;
  dropped = λ w others e why. tt;
  slotless = λ w others e. tt;
  fault = λ w others e fault. record {
    first = waits_first s h w others e;
    side = side_shut s h w others e
        ∙ receive-shut s.registers h.registers.shape w.queue (queue_small s h w others e);
  };
  filled = λ w others e f is.
      let taken = takes_piece _ _ _ _ f is in
      record {
        first = waits_first s h w others e;
        at_head = taken.slot;
        side = side_filled s h w others e f taken.inside
            ∙ ap (λ head. record (receive_queue_of s.registers w.queue) {
              ring = record (ring_of s.registers Rx w.queue) { head = head };
            }) taken.head;
      };
})
