-- How single events affect the agreement of the device and a driver about the driver's receive ring.
pub use Rattle.ring_laws.specs.Left.{IsOutside}
use Rattle.std.specs.Prelude.{◌++◌, ◌/◌, ◌<◌, ◌↔◌, ◌≡◌, ◌≢◌, ◌⊎◌, IsTrue, List, Some, length, ℕ, ⊤}
use Rattle.ring_laws.specs.Prelude.{Block, Blocks, Bytes, Entry, EntryLeavesAlone, Event, IsEvent, IsSound}
use Rattle.ring_laws.specs.Prelude.{LeavesBlock, LeavesReceive, Mode, Reply, Rx, State, Watched, Wrote, after}
use Rattle.ring_laws.specs.Prelude.{bytes_in, ends_packet, first_half, is_done, mode_in, receive_queue_of, reply_to}
use Rattle.ring_laws.specs.Prelude.{second_half, reported_address}
use Rattle.ring_laws.specs.ReceivePrelude.{IsOwn, Lent, Receive, Stage, descriptor_at, drive}
use Rattle.ring_laws.specs.ReceivePrelude.{is_step}
use Rattle.pmd_rx.specs.Keeping.{has_lent}
use Rattle.ring_laws.specs.{Joint.Agree, Joint.Holds, Pieces.Piece, Pieces.piece_at, Pieces.pieces}
use Rattle.pmd_access.specs.NicDevice.declared.event.Event.TheVariants as event

-- What a read of a slot returns: the descriptor is done exactly if the slot is filled, and then reports the slot's
-- piece.
pub record TellsSlot (here : List Piece) (k : ℕ) (d : List ℕ) : Type 0 where
  pub done : IsTrue (is_done (second_half d)) ↔ (k < length here)
  pub end : k < length here → ends_packet (second_half d) ≡ (piece_at here k).end
  pub len : k < length here → bytes_in (second_half d) ≡ length (piece_at here k).bytes
  pub first : k < length here → first_half d ≡ (piece_at here k).first

abbrev pub LookTellsSlot : Type 0
LookTellsSlot =
    (queue : ℕ) (s : State) (out : List Piece) (v : Receive) (gone here : List Piece) (k : ℕ) →
    Holds queue s out v gone here → k < length v.layout.blocks → (d : List ℕ) →
    reply_to s (event.Peek16 (descriptor_at v.layout k)) ≡ Bytes d → TellsSlot here k d

-- `P` holds for the lent block that no descriptor names yet, if the driver has such a block.
abbrev pub IfFresh : Stage → (ℕ → Type 0) → Type 0
IfFresh (Lent b) P = P b
IfFresh other P = ⊤

-- `P` holds for each block that the driver has lent for receiving.
abbrev pub Each : Receive → (ℕ → Type 0) → Type 0
Each v P = (number : ℕ) → IsTrue (has_lent v number) → P number

-- An event changes neither the queue's receive side nor the driver's blocks, nor which register each address or offset
-- selects.
pub record Leaves (queue : ℕ) (v : Receive) (old new : State) : Type 0 where
  pub receive : LeavesReceive queue old new
  pub mode : mode_in new.registers ≡ mode_in old.registers
  pub vfs : new.vfs ≡ old.vfs
  pub blocks : Each v (λ b. LeavesBlock b old new)

-- Whatever a step wrote on another queue is in none of the driver's blocks.
abbrev pub SparesBlocks : ℕ → Receive → Reply Block → Type 0
SparesBlocks queue v (Wrote on slot end desc at len) = on ≢ queue → Each v (λ b. IsOutside desc at len b)
SparesBlocks queue v other = ⊤

-- What the queue's own transmit side writes back is in none of the blocks that the driver has lent for receiving.
abbrev pub OwnReportsSpare : ℕ → Receive → State → Type 0
OwnReportsSpare queue v s =
    (back : ℕ) → reported_address (reply_to s (event.TxStep queue)) ≡ Some back → Each v (λ b. b ≢ back / 2048)

-- The device's state before an entry that isn't the driver's own. The device is sound, and its queues are separated
-- according to `mode`.
pub record IsMetBy (w : Watched) (mode : Mode) (s : State) (e : Entry) : Type 0 where
  pub sound : IsSound s
  pub vfs : w.vfs ≡ s.vfs
  pub mode_is : mode ≡ mode_in s.registers
  pub reply : e.reply ≡ reply_to s e.event
  pub event : IsEvent e.event

-- An entry of another pass, or a device step of any pass, keeps the agreement under two conditions. The entry or step
-- must leave alone the queue and all blocks that the driver has lent. And the queue's own transmit side must write no
-- report into any of these blocks.
abbrev pub EntryKeeps : Type 0
EntryKeeps =
    (w : Watched) (mine : Blocks) (mode : Mode) (s : State) (out : List Piece) (v : Receive) (e : Entry) →
    IsMetBy w mode s e → Agree w.queue s out v → Each v (λ b. IsTrue (mine b)) → OwnReportsSpare w.queue v s →
    EntryLeavesAlone w mine mode e → (e.pass ≢ w.pass) ⊎ IsTrue (is_step e.event) →
    Agree w.queue (after s e.event) (out ++ pieces w.queue s e.event) v

-- A receive step keeps the agreement, whichever queue it serves, if what it writes for another queue is in none of the
-- driver's blocks. A receive step that serves the driver's queue fills the first posted slot, which becomes the last
-- filled slot, or it changes nothing.
abbrev pub ReceiveStepKeeps : Type 0
ReceiveStepKeeps =
    (queue : ℕ) (s : State) (out : List Piece) (v : Receive) → IsSound s → Agree queue s out v →
    SparesBlocks queue v (reply_to s event.RxStep) →
    Agree queue (after s event.RxStep) (out ++ pieces queue s event.RxStep) v

-- An event leaves unchanged everything that `Leaves` lists, except whether the side is on and whether an enable request
-- is in effect. Such an event keeps the agreement.
pub record LeavesButOn (queue : ℕ) (v : Receive) (old new : State) : Type 0 where
  pub ring : (receive_queue_of new.registers queue).ring ≡ (receive_queue_of old.registers queue).ring
  pub control : (receive_queue_of new.registers queue).control ≡ (receive_queue_of old.registers queue).control
  pub mode : mode_in new.registers ≡ mode_in old.registers
  pub vfs : new.vfs ≡ old.vfs
  pub blocks : Each v (λ b. LeavesBlock b old new)

abbrev pub SwitchingKeeps : Type 0
SwitchingKeeps =
    (queue : ℕ) (s t : State) (out : List Piece) (v : Receive) → LeavesButOn queue v s t → Agree queue s out v →
    Agree queue t out v

-- A step that enables or disables the queue's receive side keeps the agreement too.
abbrev pub EnableStepKeeps : Type 0
EnableStepKeeps =
    (queue : ℕ) (s : State) (out : List Piece) (v : Receive) → IsSound s → Agree queue s out v →
    Agree queue (after s (event.QueueStep Rx queue)) out v

-- An event that leaves the receive side unchanged keeps the agreement.
abbrev pub LeavingKeeps : Type 0
LeavingKeeps =
    (queue : ℕ) (s t : State) (out : List Piece) (v : Receive) → Leaves queue v s t → Agree queue s out v →
    Agree queue t out v

-- Each of the driver's own events keeps the agreement: after the event, the device agrees with the driver's new state.
abbrev pub OwnEventKeeps : Type 0
OwnEventKeeps =
    (queue : ℕ) (s : State) (out : List Piece) (v : Receive) (e : Event Block) → IsSound s → Agree queue s out v →
    IsOwn v e → Agree queue (after s e) (out ++ pieces queue s e) (drive v e (reply_to s e))
