-- Each event increments exactly the counters that its reply implies.
use Rattle.std.proofs.Common.{◌≡◌, ℕ, List, [], ◌∷◌, length, refl, arith, Ok, Err, nat_lt}
use Rattle.std.specs.Prelude.{Result, ◌&&◌, ◌==◌}
use Rattle.nic_device.specs.RegTable.declared.kind.Kind.TheVariants as kind
use Rattle.nic_device.specs.IntrUnit.declared.group.Group.TheVariants as group
use Rattle.nic_device.specs.RxFilter.Sorting.{sorted}
use Rattle.nic_device.specs.RxFilter.declared.unwanted.Unwanted.TheVariants as unwanted
use Rattle.nic_device.specs.RxRing.Fill.{fill_of}
use Rattle.nic_device.specs.Arrival.{arrived, sorted_in}
use Rattle.device_laws.specs.Prelude.{Block, Eerd, Event, Filled, Gprc, IsSound, Memory, Outcome, Place, Qprdc}
use Rattle.device_laws.specs.Prelude.{RingFault, Roc, Ruc, Rx, State, Target, Tx, Unwanted, Waiting, can_receive}
use Rattle.device_laws.specs.Prelude.{counter_of, drops, frame_limit, is_stopped, mode_in, named, place}
use Rattle.device_laws.specs.Prelude.{receive_queue_of, received, rest_of, row_of, step_of, transmitted, word_at}
use Rattle.device_laws.proofs.Prelude.{either_way, transmitted_cases, word_stands}
use Rattle.device_laws.specs.Counting.{counts, with_one, EventsCount}
use Rattle.nic_device.specs.Receive as receive
use Rattle.device_laws.proofs.Counting.{elsewhere, not_pending, counted_there, failed_keeps, missed_counts, piece_counts}
use Rattle.device_laws.proofs.CountingSent.{reported_counts}
use Rattle.device_laws.proofs.CountsKept.{read_misses, write_misses, switch_misses}
use Rattle.device_laws.proofs.Standing.{stays_within}
use Rattle.nic_device.specs.declared.event.Event.TheVariants as event

-- Which counters an event increments, given its reply and the state after it.
abbrev Counts : State → Event Block → Outcome → Type 0
Counts s e o =
    (p : Place) → (row_of p.row).kind ≡ kind.Rc
    → word_at o.state.registers.words p ≡ with_one (counts s e o.reply p) (word_at s.registers.words p)

-- Frames that arrive.

sorted_counts : (s : State) (frame : List ℕ) → IsSound s → (answer : Result Target Unwanted)
    → Counts s (event.Arrive frame) (sorted_in s frame answer)
sorted_counts s frame h (Ok t) =
    either_way (Counts s (event.Arrive frame)) (nat_lt (length s.waiting) s.fifo) _ _
    (λ p is. counted_there s.registers Gprc 0 h.registers.shape (omega arith) p)
    (λ p is. missed_counts s.registers h.registers.shape p is)
sorted_counts s frame h (Err unwanted.Filter) = λ p is. refl
sorted_counts s frame h (Err unwanted.NoPool) = λ p is. refl
sorted_counts s frame h (Err unwanted.PoolOff) = λ p is. refl

arrived_counts : (s : State) (frame : List ℕ) → IsSound s → Counts s (event.Arrive frame) (arrived s frame)
arrived_counts s frame h =
    let P = Counts s (event.Arrive frame) in
    either_way P s.link _ _
    (either_way P (can_receive s.registers) _ _
    (either_way P (nat_lt (length frame) 60) _ _
    (λ p is. counted_there s.registers Ruc 0 h.registers.shape (omega arith) p)
    (either_way P (nat_lt (frame_limit s.registers) (length frame)) _ _
    (λ p is. counted_there s.registers Roc 0 h.registers.shape (omega arith) p)
    (sorted_counts s frame h (sorted s.registers frame))))
    (λ p is. refl))
    (λ p is. refl)

-- Receive steps, given the waiting frames.

abbrev CountsFirst : State → List Waiting → Outcome → Type 0
CountsFirst s ws o = Counts (record s { waiting = ws }) event.RxStep o

slot_counts : (s : State) (w : Waiting) (others : List Waiting) → IsSound s → (answer : Result Filled RingFault)
    (memory : Memory) → CountsFirst s (w ∷ others) (receive.slot_done s w others answer memory)
slot_counts s w others h (Ok f) memory = λ p is. piece_counts s.registers s.vfs w.queue f h.registers.shape p is
slot_counts s w others h (Err fault) memory = λ p is. failed_keeps s.registers Rx w.queue p is

first_counts : (s : State) (ws : List Waiting) → IsSound s → CountsFirst s ws (receive.first_received s ws)
first_counts s [] h = λ p is. refl
first_counts s (w ∷ others) h =
    let P = CountsFirst s (w ∷ others) in
    let q = receive_queue_of s.registers w.queue in
    either_way P q.on _ _
    (either_way P (receive.is_empty q.ring) _ _
    (either_way P (drops s.registers w.queue && w.offset == 0) _ _
    (λ p is. counted_there s.registers Qprdc (counter_of s.registers Rx w.queue) h.registers.shape (omega arith) p)
    (λ p is. refl))
    (slot_counts s w others h (fill_of s.memory q.ring q.control (rest_of w)).answer _))
    (λ p is. refl)

received_counts : (s : State) → IsSound s → Counts s event.RxStep (received s)
received_counts s h =
    either_way (Counts s event.RxStep) (is_stopped s.registers) _ _ (λ p is. refl) (first_counts s s.waiting h)

-- Transmit steps.

transmitted_counts : (s : State) (queue : ℕ) → IsSound s → Counts s (event.TxStep queue) (transmitted s queue)
transmitted_counts s queue h = transmitted_cases (Counts s (event.TxStep queue)) s queue (record {
  none = λ p is. refl;
  idle = λ p is. refl;
  fault = λ fault p is. failed_keeps s.registers Tx queue p is;
  fetched = λ f _ p is. reported_counts s.registers s.vfs queue f h.registers.shape p is;
})

-- Every event.

pub events_count : EventsCount
unfolding step_of
events_count s h (event.Read port n) p is keeps =
    word_stands (stays_within s (event.Read port n)).registers p (read_misses (named s port n) p is keeps)
events_count s h (event.Write port n word) p is keeps =
    word_stands (stays_within s (event.Write port n word)).registers p
    (write_misses (mode_in s.registers) (named s port n) word p is keeps)
events_count s h (event.Arrive frame) p is keeps = arrived_counts s frame h p is
events_count s h event.RxStep p is keeps = received_counts s h p is
events_count s h (event.TxStep queue) p is keeps = transmitted_counts s queue h p is
events_count s h (event.IntStep g) p is keeps =
    word_stands (stays_within s (event.IntStep g)).registers p (not_pending g p is)
events_count s h (event.QueueStep dir queue) p is keeps =
    word_stands (stays_within s (event.QueueStep dir queue)).registers p (switch_misses dir queue p is)
events_count s h event.EepromStep p is keeps =
    word_stands (stays_within s event.EepromStep).registers p
    (λ bit. elsewhere (place Eerd 0) p (λ (e : kind.Eerd ≡ kind.Rc). cc) is)
events_count s h (event.Link up) p is keeps =
    word_stands (stays_within s (event.Link up)).registers p (not_pending group.Pf p is)
events_count s h other p is keeps = word_stands (stays_within s other).registers p (λ bit. refl)
