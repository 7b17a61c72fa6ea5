-- When a transmit step is idle, and which frame is sent, in terms of register bits.
use Rattle.std.specs.Prelude.{ℕ, ◌≡◌, ◌<◌, ◌≤◌, ◌⊎◌, ◌↔◌, ◌+◌, ◌-◌, ◌*◌, ◌/◌, ◌%◌, ◌^◌, ⊤, IsFalse, List, [], ◌∷◌, ◌++◌, length, replicate}
use Rattle.nic_device.specs.RegTable.declared.rows.RowId.TheVariants.{Ctrl, Dmatxctl, Txdctl, VtCtl, GcrExt, Vfte, Hlreg0, Tdbal, Tdbah, Tdlen, Tdh, Tdt}
use Rattle.nic_device.specs.declared.event.Event.TheVariants as event
use Rattle.datasheet_laws.specs.FramePrelude.{Advanced, Block, Fault, Idle, IsSound, NoQueue, Registers, Reply, Sent, State}
use Rattle.datasheet_laws.specs.FramePrelude.{after, first_half, gives, read_at, reply_to, second_half, staged_by, step_of}
use Rattle.datasheet_laws.specs.FramePrelude.{word_of}
use Rattle.datasheet_laws.specs.Bits.{bit, field}

-- A queue's pool, according to GCR_EXT bits 1 to 0: eight queues in each of 16 pools while they are 1, four in each of
-- 32 while they are 2, two in each of 64 while they are 3, and otherwise no pools.
abbrev pub IsInPool : Registers → (queue pool : ℕ) → Type 0
IsInPool r queue pool =
    ((field 1 0 (word_of r GcrExt 0) ≡ 1) × (pool ≡ queue / 8))
    ⊎ (((field 1 0 (word_of r GcrExt 0) ≡ 2) × (pool ≡ queue / 4))
    ⊎ ((field 1 0 (word_of r GcrExt 0) ≡ 3) × (pool ≡ queue / 2)))

-- A queue is muted: VT_CTL bit 0 is 1, and its pool's bit in VFTE is 0. VFTE[0] covers pools 0 to 31, VFTE[1] pools 32
-- to 63.
pub record IsMuted (r : Registers) (queue : ℕ) : Type 0 where
  pub parted : bit 0 (word_of r VtCtl 0) ≡ 1
  pub pool : ℕ
  pub member : IsInPool r queue pool
  pub off : bit (pool % 32) (word_of r Vfte (pool / 32)) ≡ 0

-- A transmit queue has no slot for the device: head and tail, TDH and TDT bits 15 to 0, are the same slot of the ring.
-- The ring has one slot for each 16 bytes of its length, TDLEN bits 19 to 0.
pub record HasNoSlot (r : Registers) (queue : ℕ) : Type 0 where
  pub inside : field 15 0 (word_of r Tdh queue) < field 19 0 (word_of r Tdlen queue) / 16
  pub same : field 15 0 (word_of r Tdh queue) ≡ field 15 0 (word_of r Tdt queue)

-- Each reason for a queue to send nothing: CTRL bit 2 is 1, the link is down, DMATXCTL bit 0, TE, is 0, the queue is
-- disabled (TXDCTL bit 25 is 0), its pool is muted, or it has no slot.
pub data IsSilent (s : State) (queue : ℕ) : Type 0 where
  stopped : bit 2 (word_of s.registers Ctrl 0) ≡ 1 → IsSilent s queue
  down : IsFalse s.link → IsSilent s queue
  disabled : bit 0 (word_of s.registers Dmatxctl 0) ≡ 0 → IsSilent s queue
  off : bit 25 (word_of s.registers Txdctl queue) ≡ 0 → IsSilent s queue
  muted : IsMuted s.registers queue → IsSilent s queue
  slotless : HasNoSlot s.registers queue → IsSilent s queue

-- Queues 128 and above don't exist, whatever else holds. For a queue below 128, the step is idle if and only if one of
-- these reasons applies. Neither step changes anything.
pub record SendsOnReason (s : State) (queue : ℕ) : Type 0 where
  pub none : (reply_to s (event.TxStep queue) ≡ NoQueue) ↔ (128 ≤ queue)
  pub idle : (reply_to s (event.TxStep queue) ≡ Idle) ↔ ((queue < 128) × IsSilent s queue)
  pub none_changes : 128 ≤ queue → step_of s (event.TxStep queue) ≡ gives NoQueue s
  pub idle_changes : queue < 128 → IsSilent s queue → step_of s (event.TxStep queue) ≡ gives Idle s

abbrev pub SilenceHasItsReasons : Type 0
SilenceHasItsReasons = (s : State) (queue : ℕ) → SendsOnReason s queue

-- The descriptor at the head of a transmit queue: 16 bytes at the base in TDBAH and TDBAL, plus 16 for each slot up to
-- the one in TDH bits 15 to 0.
abbrev pub head_descriptor : State → ℕ → List ℕ
head_descriptor s queue =
    read_at s.memory
    ((word_of s.registers Tdbah queue * 2 ^ 32 + word_of s.registers Tdbal queue
    + 16 * field 15 0 (word_of s.registers Tdh queue)) % 2 ^ 64) 16

-- The bytes that a descriptor names. They start at the address in its first half, and bits 15 to 0 of its second half
-- are their number.
abbrev pub named_bytes : State → List ℕ → List ℕ
named_bytes s descriptor = read_at s.memory (first_half descriptor) (field 15 0 (second_half descriptor))

-- The bytes that a queue has staged, followed by the bytes of the descriptor at its head.
abbrev pub with_named : State → ℕ → List ℕ
with_named s queue = staged_by s queue ++ named_bytes s (head_descriptor s queue)

-- A frame is sent with its bytes unchanged. While HLREG0 bit 10, TXPADEN, is 1, a short one is padded with zero bytes
-- to 60.
pub record GoesOutAs (r : Registers) (bytes frame : List ℕ) : Type 0 where
  pub plain : bit 10 (word_of r Hlreg0 0) ≡ 0 → frame ≡ bytes
  pub long : 60 ≤ length bytes → frame ≡ bytes
  pub padded :
      bit 10 (word_of r Hlreg0 0) ≡ 1 → length bytes ≤ 60 → frame ≡ bytes ++ replicate (60 - length bytes) 0

-- A frame was sent: the staged bytes, followed by the bytes that the descriptor names. The descriptor is of type 3
-- (bits 23 to 20) and ends the packet (bit 24). The frame is the last of the transmitted frames, and nothing is staged
-- afterwards.
pub record SendsFrame (queue len : ℕ) (s new : State) : Type 0 where
  pub frame : List ℕ
  pub bytes : GoesOutAs s.registers (with_named s queue) frame
  pub long : length frame ≡ len
  pub out : new.out ≡ s.out ++ (queue, frame) ∷ []
  pub type : field 23 20 (second_half (head_descriptor s queue)) ≡ 3
  pub end : bit 24 (second_half (head_descriptor s queue)) ≡ 1
  pub staged : staged_by new queue ≡ []

-- A descriptor of type 3 that doesn't end the packet: its bytes are staged after the others.
pub record StagesBytes (queue : ℕ) (s new : State) : Type 0 where
  pub type : field 23 20 (second_half (head_descriptor s queue)) ≡ 3
  pub goes_on : bit 24 (second_half (head_descriptor s queue)) ≡ 0
  pub staged : staged_by new queue ≡ with_named s queue

-- A descriptor of type 2, a context descriptor, stages nothing.
pub record StagesNothing (queue : ℕ) (s new : State) : Type 0 where
  pub type : field 23 20 (second_half (head_descriptor s queue)) ≡ 2
  pub staged : staged_by new queue ≡ staged_by s queue

-- The frame after a transmit step: if the step is reported as advanced, nothing is sent; if it has a fault, the staged
-- bytes are lost.
abbrev pub SentAfter : ℕ → Reply Block → State → State → Type 0
SentAfter own (Sent queue len back) s new = SendsFrame own len s new
SentAfter own (Advanced queue slot back) s new =
    (StagesBytes own s new ⊎ StagesNothing own s new) × (new.out ≡ s.out)
SentAfter own (Fault queue fault) s new = (staged_by new own ≡ []) × (new.out ≡ s.out)
SentAfter own other s new = ⊤

abbrev pub FramesGoOutWhole : Type 0
FramesGoOutWhole =
    (s : State) → IsSound s → (queue : ℕ) →
    SentAfter queue (reply_to s (event.TxStep queue)) s (after s (event.TxStep queue))
