-- What an event that leaves a queue alone does to the queue's sides.
use Rattle.std.specs.Prelude.{[], ◌<◌, ◌==◌, ◌∷◌, ◌≡◌, Bool, Err, IsFalse, IsTrue, List, Ok, false, true, ℕ}
use Rattle.ring_laws.specs.Prelude.{Avoids, Block, Blocks, Dir, Event, Fetched, Filled, IsEvent, IsSound}
use Rattle.ring_laws.specs.Prelude.{LeavesBlock, LeavesBlocks, LeavesRegisters, RingFault, Rx, State, Tx, Waiting}
use Rattle.ring_laws.specs.Prelude.{Watched, WritesOutside, Wrote, after, frame_limit, mode_in, receive_queue_of}
use Rattle.ring_laws.specs.Prelude.{reply_to, rest_of, sending_of, staged_by, step_of, transmit_queue_of}
use Rattle.device_lock.specs.NicDevice.Transmit.{is_silent}
use Rattle.ring_laws.specs.Sides.{IsTried, LeavesSide, as_wanted, shut, side_of, taken}
use Rattle.ring_laws.specs.Segments.{piece_in, pieces, sent_by}
use Rattle.device_laws.specs.Leaving.{LeavesMemory}
use Rattle.device_lock.specs.NicDevice.RxRing.Fill as rx
use Rattle.device_lock.specs.NicDevice.TxRing.Fetch as tx
use Rattle.device_lock.specs.NicDevice.Transmit as transmit
use Rattle.device_lock.specs.NicDevice.declared.event.Event.TheVariants as event

-- An event on a sound device that leaves a queue and these blocks alone, by the clauses that judge a closed history.
pub record IsLeft (w : Watched) (mine : Blocks) (s : State) (e : Event Block) : Type 0 where
  pub small : w.queue < 128
  pub sound : IsSound s
  pub vfs : w.vfs ≡ s.vfs
  pub made : IsEvent e
  pub registers : LeavesRegisters w (mode_in s.registers) e
  pub blocks : LeavesBlocks mine e
  pub steps : WritesOutside w.queue mine (reply_to s e)

-- `is_step_of`: whether an event is a device step that can serve this side of the queue. For a receive side this is any
-- receive step; for a transmit side it is a transmit step of this queue. `is_switch_of`: whether the event is a step
-- that enables or disables the side.
abbrev pub is_step_of : Dir → ℕ → Event Block → Bool
is_step_of Rx queue event.RxStep = true
is_step_of Tx queue (event.TxStep on) = on == queue
is_step_of dir queue other = false

abbrev pub is_switch_of : Dir → ℕ → Event Block → Bool
is_switch_of Rx queue (event.QueueStep Rx on) = on == queue
is_switch_of Tx queue (event.QueueStep Tx on) = on == queue
is_switch_of dir queue other = false

-- `fill_on`: the result of filling the slot at the head of the receive ring with the rest of a frame. `fetch_on`: the
-- result of fetching the slot at the head of the transmit ring.
abbrev pub fill_on : State → ℕ → rx.Rest → rx.Outcome
fill_on s queue rest =
    rx.fill_of s.memory (receive_queue_of s.registers queue).ring (receive_queue_of s.registers queue).control rest

abbrev pub fetch_on : State → ℕ → tx.Outcome
fetch_on s queue =
    tx.fetch_of s.memory (staged_by s queue) (transmit_queue_of s.registers queue).ring
    (sending_of s.registers (transmit_queue_of s.registers queue))

-- The oldest waiting frame is for this queue.
pub record IsFirst (queue : ℕ) (s : State) (w : Waiting) : Type 0 where
  pub others : List Waiting
  pub waits : s.waiting ≡ w ∷ others
  pub own : w.queue ≡ queue

-- A receive step filled the slot at the head with a piece of the oldest waiting frame.
pub record WritesPiece (queue : ℕ) (s : State) (e : Event Block) : Type 0 where
  pub is : e ≡ event.RxStep
  pub frame : Waiting
  pub first : IsFirst queue s frame
  pub filled : Filled
  pub answer : (fill_on s queue (rest_of frame)).answer ≡ Ok filled
  pub memory : (after s e).memory ≡ (fill_on s queue (rest_of frame)).memory
  pub reported : reply_to s e ≡ Wrote queue filled.slot filled.end filled.desc filled.at filled.len
  pub piece : pieces queue s e ≡ piece_in (rest_of frame) filled ∷ []

-- A transmit step fetched the slot at the head.
pub record FetchesSlot (queue : ℕ) (s : State) (e : Event Block) : Type 0 where
  pub is : e ≡ event.TxStep queue
  pub loud : IsFalse (is_silent s queue (transmit_queue_of s.registers queue))
  pub fetched : Fetched
  pub answer : (fetch_on s queue).answer ≡ Ok fetched
  pub step :
      step_of s e ≡ transmit.slot_done s queue (Ok fetched) (fetch_on s queue).memory (fetch_on s queue).staged

abbrev pub WorksSlot : Dir → ℕ → State → Event Block → Type 0
WorksSlot Rx queue s e = WritesPiece queue s e
WorksSlot Tx queue s e = FetchesSlot queue s e

-- `CannotFill`: because of a fault, the slot at the head can't be filled with the rest of the oldest waiting frame.
-- `CannotFetch`: because of a fault, the slot at the head can't be fetched.
pub record CannotFill (queue : ℕ) (s : State) : Type 0 where
  pub frame : Waiting
  pub first : IsFirst queue s frame
  pub fault : RingFault
  pub answer : (fill_on s queue (rest_of frame)).answer ≡ Err fault

pub record CannotFetch (queue : ℕ) (s : State) : Type 0 where
  pub loud : IsFalse (is_silent s queue (transmit_queue_of s.registers queue))
  pub fault : RingFault
  pub answer : (fetch_on s queue).answer ≡ Err fault

abbrev pub MeetsFault : Dir → ℕ → State → Type 0
MeetsFault Rx queue s = CannotFill queue s
MeetsFault Tx queue s = CannotFetch queue s

-- An event tried the slot at the head of a side's ring and took it.
pub record Takes (dir : Dir) (queue : ℕ) (s : State) (e : Event Block) : Type 0 where
  pub tried : IsTried (side_of dir queue s)
  pub staged : List ℕ
  pub side : side_of dir queue (after s e) ≡ taken staged (side_of dir queue s)
  pub work : WorksSlot dir queue s e

-- An event tried the slot at the head of a side's ring and met a fault, which shut the side.
pub record Shuts (dir : Dir) (queue : ℕ) (s : State) (e : Event Block) : Type 0 where
  pub tried : IsTried (side_of dir queue s)
  pub side : side_of dir queue (after s e) ≡ shut (side_of dir queue s)
  pub fault : MeetsFault dir queue s

-- Nothing was sent on a queue, and a transmit step on the queue wrote no memory.
pub record SendsNone (queue : ℕ) (s : State) (e : Event Block) : Type 0 where
  pub sent : sent_by queue s e ≡ []
  pub memory : IsTrue (is_step_of Tx queue e) → LeavesMemory s (after s e)

-- Nothing was received or sent on the queue.
abbrev pub IsSilent : Dir → ℕ → State → Event Block → Type 0
IsSilent Rx queue s e = pieces queue s e ≡ []
IsSilent Tx queue s e = SendsNone queue s e

-- What an event that takes no slot can do to a side: leave the side unchanged, shut it, or put it into its requested
-- state.
pub data Rests (dir : Dir) (queue : ℕ) (s : State) (e : Event Block) : Type 0 where
  Nothing : LeavesSide dir queue s (after s e) → Rests dir queue s e
  Shut : Shuts dir queue s e → Rests dir queue s e
  Switched : side_of dir queue (after s e) ≡ as_wanted (side_of dir queue s) → Rests dir queue s e

-- What an event does to a side.
pub data Deed (dir : Dir) (queue : ℕ) (s : State) (e : Event Block) : Type 0 where
  Took : Takes dir queue s e → Deed dir queue s e
  Rested : IsSilent dir queue s e → Rests dir queue s e → Deed dir queue s e

-- What an event does to a queue and to blocks that the event leaves alone.
pub record Did (queue : ℕ) (mine : Blocks) (s : State) (e : Event Block) : Type 0 where
  pub receive : Deed Rx queue s e
  pub transmit : Deed Tx queue s e
  pub blocks :
      IsSilent Rx queue s e → IsSilent Tx queue s e → (number : ℕ) → IsTrue (mine number)
      → LeavesBlock number s (after s e)
  pub limit : frame_limit (after s e).registers ≡ frame_limit s.registers
  pub mode : mode_in (after s e).registers ≡ mode_in s.registers
  pub vfs : (after s e).vfs ≡ s.vfs

abbrev pub LeftDid : Type 0
LeftDid = (w : Watched) (mine : Blocks) (s : State) (e : Event Block) → IsLeft w mine s e → Did w.queue mine s e

-- What an event does to a side, if it leaves the side unchanged or is a step of that side.
abbrev pub SidesDo : Type 0
SidesDo =
    (dir : Dir) (queue : ℕ) (s : State) (e : Event Block) → IsSound s → queue < 128 →
    (IsFalse (is_step_of dir queue e) → IsFalse (is_switch_of dir queue e) → LeavesSide dir queue s (after s e)) →
    Deed dir queue s e

-- The 16 bytes of the descriptor at `desc` are outside block `b`. So are the `len` bytes at `at`, unless `len` is 0.
pub record IsOutside (desc at len b : ℕ) : Type 0 where
  pub descriptor : Avoids b desc 16
  pub bytes : 0 < len → Avoids b at len
