-- What a receive step does with the first frame in the receive list, given the state before the step.
use Rattle.std.specs.Prelude.{◌≡◌, ◌≢◌, ◌⊎◌, IsTrue, IsFalse, List, [], ◌∷◌, Ok, Err, is_ok}
use Rattle.nic_device.specs.RxRing.Fill.{Outcome, fill_of}
use Rattle.nic_device.specs.RegisterLaws.Sides.{ReceiveQueue, receive_queue_of}
use Rattle.nic_device.specs.declared.event.Event.TheVariants as event
use Rattle.device_laws.specs.Prelude.{Block, Dropped, Fault, Filled, Idle, NoSlot, QueueOff, Reply, RingFault, State}
use Rattle.device_laws.specs.Prelude.{Waiting, Why, Wrote, drops, gives, is_empty, is_stopped, reply_to, rest_of}
use Rattle.device_laws.specs.Prelude.{step_of}

-- The receive side of a frame's queue, and the result of filling the slot at that side's head.
abbrev pub side_for : State → Waiting → ReceiveQueue
side_for s w = receive_queue_of s.registers w.queue

abbrev pub filling : State → Waiting → Outcome
filling s w = fill_of s.memory (side_for s w).ring (side_for s w).control (rest_of w)

-- The first frame is dropped if its queue is disabled. Suppose that the queue is enabled. If the device owns a slot,
-- the slot is filled or has a fault. If the device owns no slot, the frame stays in the list, except in one case: the
-- frame is dropped if the queue has drop enable set and no part of the frame is written.
pub record ReceivesInOrder (s : State) (w : Waiting) (others : List Waiting) : Type 0 where
  pub off :
      IsFalse (side_for s w).on → step_of s event.RxStep ≡ gives (Dropped QueueOff) (record s { waiting = others })
  pub slotless :
      IsTrue (side_for s w).on → IsTrue (is_empty (side_for s w).ring) → IsTrue (drops s.registers w.queue)
      → w.offset ≡ 0 → reply_to s event.RxStep ≡ Dropped NoSlot
  pub begun :
      IsTrue (side_for s w).on → IsTrue (is_empty (side_for s w).ring) → w.offset ≢ 0
      → step_of s event.RxStep ≡ gives Idle s
  pub waits :
      IsTrue (side_for s w).on → IsTrue (is_empty (side_for s w).ring) → IsFalse (drops s.registers w.queue)
      → step_of s event.RxStep ≡ gives Idle s
  pub wrote :
      IsTrue (side_for s w).on → IsFalse (is_empty (side_for s w).ring) → (f : Filled) → (filling s w).answer ≡ Ok f
      → reply_to s event.RxStep ≡ Wrote w.queue f.slot f.end f.desc f.at f.len
  pub fault :
      IsTrue (side_for s w).on → IsFalse (is_empty (side_for s w).ring) → (fault : RingFault)
      → (filling s w).answer ≡ Err fault → reply_to s event.RxStep ≡ Fault w.queue fault

abbrev pub ReceivingHasAnOrder : Type 0
ReceivingHasAnOrder =
    (s : State) → IsFalse (is_stopped s.registers) → (w : Waiting) (others : List Waiting) → s.waiting ≡ w ∷ others →
    ReceivesInOrder s w others

-- The first frame's queue is enabled. The device owns none of its slots (`IsSlotless`) or at least one (`HasSlot`).
pub record IsSlotless (s : State) (w : Waiting) : Type 0 where
  pub on : IsTrue (side_for s w).on
  pub empty : IsTrue (is_empty (side_for s w).ring)

pub record HasSlot (s : State) (w : Waiting) : Type 0 where
  pub on : IsTrue (side_for s w).on
  pub some : IsFalse (is_empty (side_for s w).ring)

-- The case that a reply reports. No two cases occur at the same time.
abbrev pub DroppedCase : State → Waiting → Why → Type 0
DroppedCase s w QueueOff = IsFalse (side_for s w).on
DroppedCase s w NoSlot = IsSlotless s w × IsTrue (drops s.registers w.queue) × (w.offset ≡ 0)
DroppedCase s w other = ⊥

abbrev pub CaseOf : State → Waiting → Reply Block → Type 0
CaseOf s w Idle = IsSlotless s w × (IsFalse (drops s.registers w.queue) ⊎ (w.offset ≢ 0))
CaseOf s w (Dropped why) = DroppedCase s w why
CaseOf s w (Wrote queue slot end desc at len) = HasSlot s w × IsTrue (is_ok (filling s w).answer)
CaseOf s w (Fault queue fault) = HasSlot s w × IsFalse (is_ok (filling s w).answer)
CaseOf s w other = ⊥

-- Each reply occurs only in its own case.
abbrev pub EachReplyInItsCase : Type 0
EachReplyInItsCase =
    (s : State) → IsFalse (is_stopped s.registers) → (w : Waiting) (others : List Waiting) → s.waiting ≡ w ∷ others →
    CaseOf s w (reply_to s event.RxStep)

abbrev pub NothingWaitsIsIdle : Type 0
NothingWaitsIsIdle =
    (s : State) → IsFalse (is_stopped s.registers) → s.waiting ≡ [] → step_of s event.RxStep ≡ gives Idle s
