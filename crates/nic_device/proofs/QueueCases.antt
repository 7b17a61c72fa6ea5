-- The possible replies to receive and transmit steps, and the states after them.
use Rattle.std.proofs.Common.{◌≡◌, ℕ, List, [], ◌∷◌, refl, Ok, Err}
use Rattle.std.specs.Prelude.{Result, ◌&&◌, ◌==◌}
use Rattle.rx_ring.specs.DmaRing.declared.fault.RingFault.{RingFault}
use Rattle.rx_ring.specs.declared.filled.Filled.{Filled}
use Rattle.rx_ring.specs.Fill as rx
use Rattle.tx_ring.specs.declared.fetched.Fetched.{Fetched}
use Rattle.tx_ring.specs.Fetch as tx
use Rattle.register_file.specs.Settings.{drops}
use Rattle.register_laws.specs.Sides.{receive_queue_of, transmit_queue_of}
use Rattle.nic_device.specs.State.{State, Waiting}
use Rattle.nic_device.specs.Outcome.{Outcome, gives}
use Rattle.nic_device.specs.Receive as receive
use Rattle.nic_device.specs.Interrupt.{side_failed}
use Rattle.nic_device.specs.Receive.{received, rest_of, slotless_counted}
use Rattle.nic_device.specs.Transmit as transmit
use Rattle.nic_device.specs.Transmit.{transmitted, staged_by, sending_of}
use Rattle.rx_ring.specs.DmaRing.declared.dir.Dir.TheVariants.{Rx}
use Rattle.nic_device.specs.declared.event.Reply.TheVariants.{Idle, NoQueue, Dropped, Fault}
use Rattle.nic_device.specs.declared.event.Why.{Why}
use Rattle.nic_device.specs.declared.event.Why.TheVariants.{QueueOff, NoSlot}
use Rattle.nic_device.proofs.Cases.{either_way}

-- Receive steps.

abbrev pub filled_by : State → Waiting → rx.Outcome
filled_by s w = rx.fill_of s.memory (receive_queue_of s.registers w.queue).ring
    (receive_queue_of s.registers w.queue).control (rest_of w)

-- A receive step has one of these results.
pub record Receives (P : Outcome → Type 0) (s : State) : Type 0 where
  pub idle : P (gives Idle s)
  pub dropped : (w : Waiting) (others : List Waiting) → s.waiting ≡ w ∷ others → (why : Why)
      → P (gives (Dropped why) (record s { waiting = others }))
  pub slotless : (w : Waiting) (others : List Waiting) → s.waiting ≡ w ∷ others
      → P (gives (Dropped NoSlot)
      (record s { registers = slotless_counted s.registers w.queue; waiting = others }))
  pub fault : (w : Waiting) (others : List Waiting) → s.waiting ≡ w ∷ others → (fault : RingFault)
      → P (gives (Fault w.queue fault) (record s { registers = side_failed s.registers Rx w.queue; waiting = others }))
  pub filled : (w : Waiting) (others : List Waiting) → s.waiting ≡ w ∷ others → (f : Filled)
      → (filled_by s w).answer ≡ Ok f → P (receive.slot_done s w others (Ok f) (filled_by s w).memory)

slot_received : (P : Outcome → Type 0) (s : State) (w : Waiting) (others : List Waiting) → s.waiting ≡ w ∷ others
    → Receives P s → (answer : Result Filled RingFault) → (filled_by s w).answer ≡ answer
    → P (receive.slot_done s w others answer (filled_by s w).memory)
slot_received P s w others e r (Ok f) is = r.filled w others e f is
slot_received P s w others e r (Err fault) is = r.fault w others e fault

first_cases : (P : Outcome → Type 0) (s : State) (ws : List Waiting) → s.waiting ≡ ws → Receives P s
    → P (receive.first_received s ws)
first_cases P s [] e r = r.idle
first_cases P s (w ∷ others) e r =
    either_way P (receive_queue_of s.registers w.queue).on _ _
    (either_way P (receive.is_empty (receive_queue_of s.registers w.queue).ring) _ _
    (either_way P (drops s.registers w.queue && w.offset == 0) _ _ (r.slotless w others e) r.idle)
    (slot_received P s w others e r _ refl))
    (r.dropped w others e QueueOff)

pub received_cases : (P : Outcome → Type 0) (s : State) → Receives P s → P (received s)
received_cases P s r = either_way P _ _ _ r.idle (first_cases P s s.waiting refl r)

-- Transmit steps.

abbrev pub fetched_by : State → ℕ → tx.Outcome
fetched_by s queue = tx.fetch_of s.memory (staged_by s queue) (transmit_queue_of s.registers queue).ring
    (sending_of s.registers (transmit_queue_of s.registers queue))

pub record Transmits (P : Outcome → Type 0) (s : State) (queue : ℕ) : Type 0 where
  pub none : P (gives NoQueue s)
  pub idle : P (gives Idle s)
  pub fault : (fault : RingFault)
      → P (transmit.slot_done s queue (Err fault) (fetched_by s queue).memory (fetched_by s queue).staged)
  pub fetched : (f : Fetched) → (fetched_by s queue).answer ≡ Ok f
      → P (transmit.slot_done s queue (Ok f) (fetched_by s queue).memory (fetched_by s queue).staged)

slot_transmitted : (P : Outcome → Type 0) (s : State) (queue : ℕ) → Transmits P s queue
    → (answer : Result Fetched RingFault) → (fetched_by s queue).answer ≡ answer
    → P (transmit.slot_done s queue answer (fetched_by s queue).memory (fetched_by s queue).staged)
slot_transmitted P s queue t (Ok f) is = t.fetched f is
slot_transmitted P s queue t (Err fault) is = t.fault fault

pub transmitted_cases : (P : Outcome → Type 0) (s : State) (queue : ℕ) → Transmits P s queue → P (transmitted s queue)
transmitted_cases P s queue t =
    either_way P _ _ _ (either_way P _ _ _ t.idle (slot_transmitted P s queue t _ refl)) t.none
