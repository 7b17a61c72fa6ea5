-- What an enable step for a side of a queue does, in terms of register bits.
use Rattle.std.specs.Prelude.{ℕ, ◌≡◌, ◌≢◌, ◌<◌, ◌≤◌, ◌⊎◌, ◌↔◌, ◌+◌, ◌^◌, Bool, true, false, List, [], ◌∷◌, if◌then◌else◌}
use Rattle.nic_device.specs.declared.event.Event.TheVariants as event
use Rattle.datasheet_laws.specs.FramePrelude.{Ctrl, Dir, Done, Idle, IsSound, NoQueue, Registers, Rx, Rxdctl, State, Tx}
use Rattle.datasheet_laws.specs.FramePrelude.{Txdctl}
use Rattle.datasheet_laws.specs.FramePrelude.{Waiting, after, gives, is_wanted, reply_to, staged_by, step_of, word_of}
use Rattle.datasheet_laws.specs.Bits.{bit}

-- The enable word of a side: RXDCTL or TXDCTL of its queue.
abbrev pub enable_word : Registers → Dir → ℕ → ℕ
enable_word r Rx queue = word_of r Rxdctl queue
enable_word r Tx queue = word_of r Txdctl queue

-- Bit 25 of that word, 1 while the side is enabled; and its requested value.
abbrev pub enable_bit : Registers → Dir → ℕ → ℕ
enable_bit r dir queue = bit 25 (enable_word r dir queue)

abbrev pub wanted_bit : Registers → Dir → ℕ → ℕ
wanted_bit r dir queue = if is_wanted r dir queue then 1 else 0

-- The device takes steps (CTRL bit 2 is 0), and the side isn't in its requested state.
pub record IsToSwitch (s : State) (dir : Dir) (queue : ℕ) : Type 0 where
  pub runs : bit 2 (word_of s.registers Ctrl 0) ≡ 0
  pub differs : enable_bit s.registers dir queue ≢ wanted_bit s.registers dir queue

-- Queues 128 and above don't exist, whatever else holds. For a queue below 128, the step is done if the side isn't in
-- its requested state and the device takes steps, and is idle otherwise. Only a step that is done changes anything.
pub record SwitchesOnReason (s : State) (dir : Dir) (queue : ℕ) : Type 0 where
  pub none : (reply_to s (event.QueueStep dir queue) ≡ NoQueue) ↔ (128 ≤ queue)
  pub done : (reply_to s (event.QueueStep dir queue) ≡ Done) ↔ ((queue < 128) × IsToSwitch s dir queue)
  pub idle : (reply_to s (event.QueueStep dir queue) ≡ Idle) ↔ ((queue < 128) × ¬ IsToSwitch s dir queue)
  pub none_changes : 128 ≤ queue → step_of s (event.QueueStep dir queue) ≡ gives NoQueue s
  pub idle_changes : queue < 128 → ¬ IsToSwitch s dir queue → step_of s (event.QueueStep dir queue) ≡ gives Idle s

abbrev pub SwitchingHasItsReason : Type 0
SwitchingHasItsReason = (s : State) (dir : Dir) (queue : ℕ) → SwitchesOnReason s dir queue

-- A receive side that becomes disabled loses the first frame if the side has written part of the frame, and loses no
-- other frame.
pub record LosesPart (queue : ℕ) (old new : List Waiting) : Type 0 where
  pub begun : (w : Waiting) (others : List Waiting) → old ≡ w ∷ others → w.queue ≡ queue → w.offset ≢ 0 → new ≡ others
  pub other : (w : Waiting) (others : List Waiting) → old ≡ w ∷ others → (w.queue ≢ queue) ⊎ (w.offset ≡ 0) → new ≡ old
  pub none : old ≡ [] → new ≡ []

-- The frames after a side became enabled or disabled: enabling changes none, and a transmit side that becomes disabled
-- loses its staged bytes.
abbrev pub FramesAfter : Bool → Dir → ℕ → State → State → Type 0
FramesAfter true dir queue s new = (new.waiting ≡ s.waiting) × (new.staged ≡ s.staged)
FramesAfter false Rx queue s new = LosesPart queue s.waiting new.waiting × (new.staged ≡ s.staged)
FramesAfter false Tx queue s new = (new.waiting ≡ s.waiting) × (staged_by new queue ≡ [])

-- Bit 25 of the enable word took the requested value, and no other bit of the word changed.
abbrev pub WordAfter : Bool → ℕ → ℕ → Type 0
WordAfter true old new = new ≡ old + 2 ^ 25
WordAfter false old new = old ≡ new + 2 ^ 25

-- The side is in its requested state, and the request stays.
pub record BecomesAsWanted (s : State) (dir : Dir) (queue : ℕ) (new : State) : Type 0 where
  pub as_wanted : enable_bit new.registers dir queue ≡ wanted_bit s.registers dir queue
  pub word :
      WordAfter (is_wanted s.registers dir queue) (enable_word s.registers dir queue)
      (enable_word new.registers dir queue)
  pub wanted : is_wanted new.registers dir queue ≡ is_wanted s.registers dir queue
  pub frames : FramesAfter (is_wanted s.registers dir queue) dir queue s new

abbrev pub SwitchedSideIsAsWanted : Type 0
SwitchedSideIsAsWanted =
    (s : State) → IsSound s → (dir : Dir) (queue : ℕ) → reply_to s (event.QueueStep dir queue) ≡ Done →
    BecomesAsWanted s dir queue (after s (event.QueueStep dir queue))
