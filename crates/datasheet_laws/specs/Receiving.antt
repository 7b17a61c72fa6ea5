-- What a receive step does with the first waiting frame, in terms of register bits.
use Rattle.std.specs.Prelude.{ℕ, ◌≡◌, ◌≢◌, ◌<◌, ◌≤◌, ◌⊎◌, ◌+◌, ◌*◌, ◌/◌, ◌%◌, ◌^◌, IsFalse, Bool, true, false, List, [], ◌∷◌, length}
use Rattle.nic_device.specs.RegTable.declared.rows.RowId.TheVariants.{Ctrl, Rxdctl, Srrctl, Rdbal, Rdbah, Rdlen, Rdh, Rdt}
use Rattle.nic_device.specs.declared.event.Event.TheVariants as event
use Rattle.datasheet_laws.specs.FramePrelude.{Block, Dropped, Fault, Idle, IsSound, NoSlot, QueueOff, Registers, Reply, State}
use Rattle.datasheet_laws.specs.FramePrelude.{Waiting, Why, Wrote, after, first_half, gives, read_at, reply_to, step_of}
use Rattle.datasheet_laws.specs.FramePrelude.{word_of}
use Rattle.datasheet_laws.specs.Bits.{bit, field}

-- The device takes steps (CTRL bit 2 is 0), and this frame is the oldest in the receive list.
pub record IsNext (s : State) (w : Waiting) (others : List Waiting) : Type 0 where
  pub runs : bit 2 (word_of s.registers Ctrl 0) ≡ 0
  pub first : s.waiting ≡ w ∷ others

-- In addition, the frame's queue is enabled: RXDCTL bit 25 is 1.
pub record IsMet (s : State) (w : Waiting) (others : List Waiting) : Type 0 where
  pub next : IsNext s w others
  pub on : bit 25 (word_of s.registers Rxdctl w.queue) ≡ 1

-- A receive queue has no slot for the device: head and tail, RDH and RDT bits 15 to 0, are the same slot of the ring.
-- The ring has one slot for each 16 bytes of its length, RDLEN bits 19 to 0.
pub record HasNoSlot (r : Registers) (queue : ℕ) : Type 0 where
  pub inside : field 15 0 (word_of r Rdh queue) < field 19 0 (word_of r Rdlen queue) / 16
  pub same : field 15 0 (word_of r Rdh queue) ≡ field 15 0 (word_of r Rdt queue)

-- The first frame keeps waiting: there is no slot for it, and SRRCTL bit 28, DROP_EN, is 0 or part of the frame is
-- written.
pub record WaitsOn (s : State) : Type 0 where
  pub w : Waiting
  pub others : List Waiting
  pub met : IsMet s w others
  pub slotless : HasNoSlot s.registers w.queue
  pub keeps : (bit 28 (word_of s.registers Srrctl w.queue) ≡ 0) ⊎ (w.offset ≢ 0)

-- The first frame is dropped because its queue is disabled.
pub record IsTurnedAway (s : State) : Type 0 where
  pub w : Waiting
  pub others : List Waiting
  pub next : IsNext s w others
  pub off : bit 25 (word_of s.registers Rxdctl w.queue) ≡ 0

-- The first frame is dropped for lack of a slot: SRRCTL bit 28 is 1, and no part of the frame is written.
pub record IsDroppedSlotless (s : State) : Type 0 where
  pub w : Waiting
  pub others : List Waiting
  pub met : IsMet s w others
  pub slotless : HasNoSlot s.registers w.queue
  pub drops : bit 28 (word_of s.registers Srrctl w.queue) ≡ 1
  pub unbegun : w.offset ≡ 0

-- The step processes a slot of the first frame's queue.
pub record LooksAtSlot (s : State) (queue : ℕ) : Type 0 where
  pub w : Waiting
  pub others : List Waiting
  pub met : IsMet s w others
  pub slot : HasNoSlot s.registers w.queue → ⊥
  pub own : queue ≡ w.queue

-- Nothing is received: the device takes no steps, no frame is waiting, or the first frame keeps waiting.
abbrev pub ReceivesNothing : State → Type 0
ReceivesNothing s = (bit 2 (word_of s.registers Ctrl 0) ≡ 1) ⊎ ((s.waiting ≡ []) ⊎ WaitsOn s)

-- Each reason for a receive step to drop a frame.
abbrev pub IsLostFor : State → Why → Type 0
IsLostFor s QueueOff = IsTurnedAway s
IsLostFor s NoSlot = IsDroppedSlotless s
IsLostFor s other = ⊥

-- The reason for each reply to a receive step.
abbrev pub IsReceivedSo : State → Reply Block → Type 0
IsReceivedSo s Idle = ReceivesNothing s
IsReceivedSo s (Dropped why) = IsLostFor s why
IsReceivedSo s (Wrote queue slot end desc at len) = LooksAtSlot s queue
IsReceivedSo s (Fault queue fault) = LooksAtSlot s queue
IsReceivedSo s other = ⊥

-- A receive step gets each reply only for the reason of that reply. No two reasons apply at the same time.
abbrev pub ReceivedForAReason : Type 0
ReceivedForAReason = (s : State) → IsReceivedSo s (reply_to s event.RxStep)

-- If a reason to be idle or to drop a frame applies, the step gets that reply. An idle step changes nothing.
pub record ReasonsAreMet (s : State) : Type 0 where
  pub idle : ReceivesNothing s → step_of s event.RxStep ≡ gives Idle s
  pub dropped : (why : Why) → IsLostFor s why → reply_to s event.RxStep ≡ Dropped why

abbrev pub EachReasonIsMet : Type 0
EachReasonIsMet = (s : State) → ReasonsAreMet s

-- The first frame left the list, and the other frames are unchanged.
pub record LosesFirst (old new : List Waiting) : Type 0 where
  pub first : Waiting
  pub was : old ≡ first ∷ new

-- The first frame left the list with its last byte.
pub record EndsFirst (len : ℕ) (old new : List Waiting) : Type 0 where
  pub first : Waiting
  pub was : old ≡ first ∷ new
  pub whole : first.offset + len ≡ length first.frame

-- The first frame stays at the front. This many more of its bytes are written, some bytes remain, and the other frames
-- are unchanged.
pub record MovesOnFirst (len : ℕ) (old new : List Waiting) : Type 0 where
  pub first : Waiting
  pub others : List Waiting
  pub was : old ≡ first ∷ others
  pub now : new ≡ record first { offset = first.offset + len } ∷ others
  pub some : 0 < len
  pub left : first.offset + len < length first.frame

abbrev pub AfterPiece : Bool → ℕ → List Waiting → List Waiting → Type 0
AfterPiece true len old new = EndsFirst len old new
AfterPiece false len old new = MovesOnFirst len old new

-- The waiting frames after a receive step, by the reply. A frame leaves the list if it is completely written, is
-- dropped, or its slot has a fault. Otherwise the list is unchanged, except for how much of the first frame is written.
abbrev pub WaitsAfterReceiving : Reply Block → List Waiting → List Waiting → Type 0
WaitsAfterReceiving (Wrote queue slot end desc at len) old new = AfterPiece end len old new
WaitsAfterReceiving (Dropped why) old new = LosesFirst old new
WaitsAfterReceiving (Fault queue fault) old new = LosesFirst old new
WaitsAfterReceiving other old new = new ≡ old

abbrev pub FramesLeaveAtTheirEnd : Type 0
FramesLeaveAtTheirEnd =
    (s : State) → IsSound s →
    WaitsAfterReceiving (reply_to s event.RxStep) s.waiting (after s event.RxStep).waiting

-- A receive step writes only the slot in RDH bits 15 to 0. The slot's descriptor is at the base in RDBAH and RDBAL plus
-- 16 bytes for each slot before it. The first half of the descriptor is the buffer's address, with bit 0 ignored.
-- SRRCTL bits 27 to 25 say that descriptors have one buffer. Bits 4 to 0 say how many KB the buffer has; if the frame
-- doesn't end in this slot, its bytes fill the buffer.
pub record WritesAtHead (s : State) (queue slot : ℕ) (end : Bool) (desc at len : ℕ) : Type 0 where
  pub head : slot ≡ field 15 0 (word_of s.registers Rdh queue)
  pub descriptor :
      desc ≡ (word_of s.registers Rdbah queue * 2 ^ 32 + word_of s.registers Rdbal queue + 16 * slot) % 2 ^ 64
  pub buffer : at ≡ 2 * (first_half (read_at s.memory desc 16) / 2)
  pub type : field 27 25 (word_of s.registers Srrctl queue) ≡ 1
  pub room : len ≤ 1024 * field 4 0 (word_of s.registers Srrctl queue)
  pub full : IsFalse end → len ≡ 1024 * field 4 0 (word_of s.registers Srrctl queue)

abbrev pub SlotsAreWrittenAtHead : Type 0
SlotsAreWrittenAtHead =
    (s : State) (queue slot : ℕ) (end : Bool) (desc at len : ℕ) →
    reply_to s event.RxStep ≡ Wrote queue slot end desc at len → WritesAtHead s queue slot end desc at len
