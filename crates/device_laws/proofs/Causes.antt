-- Each event raises exactly the causes that its reply implies.
use Rattle.std.proofs.Common.{ℕ, List, length, refl, nat_lt, Result, Ok, Err}
use Rattle.nic_device.specs.RxFilter.Sorting.{sorted}
use Rattle.nic_device.specs.RxFilter.declared.unwanted.Unwanted.TheVariants as unwanted
use Rattle.nic_device.specs.Arrival.{arrived, sorted_in}
use Rattle.device_laws.specs.Prelude.{Gprc, IsSound, Mpc, Roc, Ruc, State, Target, Tx, Unwanted, can_receive, counted}
use Rattle.device_laws.specs.Prelude.{frame_limit, link_cause, missed_cause, place, step_of, transmitted}
use Rattle.device_laws.proofs.Prelude.{HasShape-put, transmitted_cases}
use Rattle.device_laws.specs.Raising.{EventsRaise}
use Rattle.nic_device.proofs.Cases.{either_way, link_cases}
use Rattle.device_laws.proofs.CausesKept.{word_kept}
use Rattle.device_laws.proofs.CausesReported.{slot_raises}
use Rattle.device_laws.proofs.Standing.{memory_rest}
use Rattle.device_laws.proofs.StandingQueues.{switching_rest}
use Rattle.device_laws.proofs.StandingRest.{eeprom_rest, collecting_rest}
use Rattle.nic_device.specs.declared.event.Event.TheVariants as event
use Rattle.device_laws.proofs.CausesReceived.{Raises, device_raises, fault_raises, received_raises}

-- Frames that arrive.

sorted_raises : (s : State) (frame : List ℕ) → IsSound s → (answer : Result Target Unwanted)
    → Raises s (event.Arrive frame) (sorted_in s frame answer)
sorted_raises s frame h (Ok t) =
    either_way (Raises s (event.Arrive frame)) (nat_lt (length s.waiting) s.fifo) _ _
    (λ g. word_kept s.registers (place Gprc 0) _ g refl)
    (λ g. device_raises s.registers (counted s.registers Mpc 0) missed_cause
    (HasShape-put s.registers (place Mpc 0) _ h.registers.shape) g (word_kept s.registers (place Mpc 0) _ g refl))
sorted_raises s frame h (Err unwanted.Filter) = λ g. refl
sorted_raises s frame h (Err unwanted.NoPool) = λ g. refl
sorted_raises s frame h (Err unwanted.PoolOff) = λ g. refl

arrived_raises : (s : State) (frame : List ℕ) → IsSound s → Raises s (event.Arrive frame) (arrived s frame)
arrived_raises s frame h =
    let P = Raises s (event.Arrive frame) in
    either_way P s.link _ _
    (either_way P (can_receive s.registers) _ _
    (either_way P (nat_lt (length frame) 60) _ _ (λ g. word_kept s.registers (place Ruc 0) _ g refl)
    (either_way P (nat_lt (frame_limit s.registers) (length frame)) _ _
    (λ g. word_kept s.registers (place Roc 0) _ g refl) (sorted_raises s frame h (sorted s.registers frame))))
    (λ g. refl))
    (λ g. refl)

-- Transmit steps.

transmitted_raises : (s : State) (queue : ℕ) → IsSound s → Raises s (event.TxStep queue) (transmitted s queue)
transmitted_raises s queue h = transmitted_cases (Raises s (event.TxStep queue)) s queue (record {
  none = λ g. refl;
  idle = λ g. refl;
  fault = λ fault g. fault_raises s Tx queue h g;
  fetched = λ f is g. slot_raises s queue f is h g;
})

-- Every event.

pub events_raise : EventsRaise
unfolding step_of
events_raise s h (event.Read port n) never g = absurd never
events_raise s h (event.Write port n word) never g = absurd never
events_raise s h (event.Lend block) is g = (memory_rest.lend s block).groups g
events_raise s h (event.Take number) is g = (memory_rest.take s number).groups g
events_raise s h (event.Peek16 a) is g = (memory_rest.peek s a).groups g
events_raise s h (event.Poke16 a bytes) is g = (memory_rest.poke s a bytes).groups g
events_raise s h (event.Arrive frame) is g = arrived_raises s frame h g
events_raise s h event.RxStep is g = received_raises s h g
events_raise s h (event.TxStep queue) is g = transmitted_raises s queue h g
events_raise s h (event.IntStep other) never g = absurd never
events_raise s h (event.QueueStep dir queue) is g = (switching_rest s dir queue).groups g
events_raise s h event.EepromStep is g = (eeprom_rest s).groups g
events_raise s h (event.Link up) is g =
    link_cases (Raises s (event.Link up)) s up (λ o. refl)
    (λ o. device_raises s.registers s.registers link_cause h.registers.shape o refl) g
events_raise s h event.Collect is g = (collecting_rest s).groups g
