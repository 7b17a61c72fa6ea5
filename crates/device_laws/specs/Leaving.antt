-- What an event leaves unchanged: everything outside its reach.
use Rattle.std.specs.Prelude.{ℕ, ◌≡◌, ◌≢◌, ◌⊎◌, Bool, ⊤, IsFalse, List, [], ◌∷◌, length, Some}
use Rattle.std.specs.FinMap as map
use Rattle.nic_device.specs.TxRing.Report.{report_length}
use Rattle.nic_device.specs.IntrUnit.declared.group.Group.TheVariants as group
use Rattle.nic_device.specs.RegisterFile.declared.owner.Owner.TheVariants as owner
use Rattle.nic_device.specs.RegisterLaws.Footprint.{Misses, of_side, of_group, of_write}
use Rattle.nic_device.specs.Footprint.{Reach, StaysWithin, reach_of, reported_address}
use Rattle.nic_device.specs.declared.event.Event.TheVariants as event
use Rattle.device_laws.specs.Prelude.{Avoids, Block, Dir, Event, Group, Place, Port, Register, Reply, Rx, State, Tx}
use Rattle.device_laws.specs.Prelude.{Waiting, Wrote, after, asks_pool_reset, asks_reset, interrupts_of, named}
use Rattle.device_laws.specs.Prelude.{owner_of, receive_queue_of, reply_to, row_of, staged_by, transmit_queue_of}

-- The receive side of a queue is unchanged: its ring, its control word, whether it is enabled, and whether it has an
-- enable request.
abbrev pub LeavesReceive : ℕ → State → State → Type 0
LeavesReceive queue old new = receive_queue_of new.registers queue ≡ receive_queue_of old.registers queue

-- The transmit side of a queue is unchanged: its ring, its head write-back, whether it is enabled, whether it has an
-- enable request, and its staged bytes.
pub record LeavesTransmit (queue : ℕ) (old new : State) : Type 0 where
  pub side : transmit_queue_of new.registers queue ≡ transmit_queue_of old.registers queue
  pub staged : staged_by new queue ≡ staged_by old queue

-- The interrupt state of a group is unchanged: its causes, masks, auto-clear, auto-mask and reported bits.
abbrev pub LeavesGroup : Group → State → State → Type 0
LeavesGroup g old new = interrupts_of new.registers g ≡ interrupts_of old.registers g

-- The lent block with this number is unchanged. If no such block was lent, none is lent now.
abbrev pub LeavesBlock : ℕ → State → State → Type 0
LeavesBlock number old new = map.get new.memory number ≡ map.get old.memory number

-- The same memory is lent, with the same bytes.
abbrev pub LeavesMemory : State → State → Type 0
LeavesMemory old new = new.memory ≡ old.memory

-- Both sides of every queue are unchanged.
pub record LeavesQueues (old new : State) : Type 0 where
  pub receive : (queue : ℕ) → LeavesReceive queue old new
  pub transmit : (queue : ℕ) → LeavesTransmit queue old new

-- The receive list and the transmitted frames are unchanged.
pub record LeavesFrames (old new : State) : Type 0 where
  pub waiting : new.waiting ≡ old.waiting
  pub out : new.out ≡ old.out

-- All sides of queues except this one are unchanged.
pub record LeavesOtherSides (dir : Dir) (queue : ℕ) (old new : State) : Type 0 where
  pub receive : (other : ℕ) → (dir ≡ Tx) ⊎ (other ≢ queue) → LeavesReceive other old new
  pub transmit : (other : ℕ) → (dir ≡ Rx) ⊎ (other ≢ queue) → LeavesTransmit other old new

-- No event changes anything outside its reach.
abbrev pub EventStaysWithinReach : Type 0
EventStaysWithinReach = (s : State) (e : Event Block) → StaysWithin (reach_of s e) s (after s e)

-- In particular, each side of a queue and each group outside the reach is unchanged.
pub record LeavesMissed (r : Reach) (old new : State) : Type 0 where
  pub receive : (queue : ℕ) → Misses r.registers (of_side Rx queue) → LeavesReceive queue old new
  pub transmit :
      (queue : ℕ) → Misses r.registers (of_side Tx queue) → IsFalse (r.staged queue) → LeavesTransmit queue old new
  pub group : (g : Group) → Misses r.registers (of_group g) → LeavesGroup g old new

abbrev pub EventLeavesMissed : Type 0
EventLeavesMissed = (s : State) (e : Event Block) → LeavesMissed (reach_of s e) s (after s e)

-- Register accesses. A read changes no queue, and no group except the one to which its place belongs. Suppose that a
-- write requests neither a device reset nor a pool reset. Then the only side of a queue that it changes is the one to
-- which its place belongs. The only groups that it changes are those that it can reach.
pub record ReadLeaves (s : State) (port : Port) (number : ℕ) : Type 0 where
  pub queues : LeavesQueues s (after s (event.Read port number))
  pub groups :
      (g : Group) → ((p : Place) (view : ℕ) → named s port number ≡ Register p view → owner_of p ≢ owner.Group g)
      → LeavesGroup g s (after s (event.Read port number))
  pub memory : LeavesMemory s (after s (event.Read port number))
  pub frames : LeavesFrames s (after s (event.Read port number))

abbrev pub ReadLeavesTheRest : Type 0
ReadLeavesTheRest = (s : State) (port : Port) (number : ℕ) → ReadLeaves s port number

pub record WriteLeaves (old new : State) (p : Place) : Type 0 where
  pub receive : (queue : ℕ) → owner_of p ≢ owner.Side Rx queue → LeavesReceive queue old new
  pub transmit : (queue : ℕ) → owner_of p ≢ owner.Side Tx queue → LeavesTransmit queue old new
  pub groups : (g : Group) → Misses (of_write p) (of_group g) → LeavesGroup g old new
  pub frames : LeavesFrames old new

abbrev pub WriteLeavesTheRest : Type 0
WriteLeavesTheRest =
    (s : State) (port : Port) (number word : ℕ) (p : Place) (view : ℕ) → named s port number ≡ Register p view →
    IsFalse (asks_reset (row_of p.row).kind word) → IsFalse (asks_pool_reset (row_of p.row).kind word) →
    WriteLeaves s (after s (event.Write port number word)) p

abbrev pub WriteLeavesMemory : Type 0
WriteLeavesMemory =
    (s : State) (port : Port) (number word : ℕ) → LeavesMemory s (after s (event.Write port number word))

-- Memory calls change no queue, no group and no frame. Lending or taking a block changes only that block, a peek
-- changes no block, and a poke changes only blocks that contain its bytes.
pub record LeavesAllButMemory (old new : State) : Type 0 where
  pub queues : LeavesQueues old new
  pub groups : (g : Group) → LeavesGroup g old new
  pub frames : LeavesFrames old new

pub record MemoryCallsLeaveTheRest : Type 0 where
  pub lend : (s : State) (block : Block) → LeavesAllButMemory s (after s (event.Lend block))
  pub take : (s : State) (number : ℕ) → LeavesAllButMemory s (after s (event.Take number))
  pub peek : (s : State) (address : ℕ) → LeavesAllButMemory s (after s (event.Peek16 address))
  pub poke :
      (s : State) (address : ℕ) (bytes : List ℕ) → LeavesAllButMemory s (after s (event.Poke16 address bytes))

pub record MemoryCallsLeaveOtherBlocks : Type 0 where
  pub lend : (s : State) (block : Block) (number : ℕ) → number ≢ block.number
      → LeavesBlock number s (after s (event.Lend block))
  pub take : (s : State) (taken number : ℕ) → number ≢ taken → LeavesBlock number s (after s (event.Take taken))
  pub peek : (s : State) (address : ℕ) → LeavesMemory s (after s (event.Peek16 address))
  pub poke :
      (s : State) (address : ℕ) (bytes : List ℕ) (number : ℕ) → Avoids number address (length bytes)
      → LeavesBlock number s (after s (event.Poke16 address bytes))

-- An arriving frame changes no queue, no group of a virtual function, no memory and no transmitted frame.
pub record ArrivalLeaves (old new : State) : Type 0 where
  pub queues : LeavesQueues old new
  pub groups : (g : Group) → g ≢ group.Pf → LeavesGroup g old new
  pub memory : LeavesMemory old new
  pub out : new.out ≡ old.out

abbrev pub ArrivalLeavesTheRest : Type 0
ArrivalLeavesTheRest = (s : State) (frame : List ℕ) → ArrivalLeaves s (after s (event.Arrive frame))

-- The oldest frame in the receive list is for this queue.
abbrev pub IsFirstFor : ℕ → List Waiting → Type 0
IsFirstFor queue [] = ⊥
IsFirstFor queue (w ∷ others) = w.queue ≡ queue

-- The only side of a queue that a receive step changes is the receive side of the first frame's queue. The step changes
-- no transmitted frame.
pub record ReceivingLeaves (s new : State) : Type 0 where
  pub receive : (queue : ℕ) → ¬ IsFirstFor queue s.waiting → LeavesReceive queue s new
  pub transmit : (queue : ℕ) → LeavesTransmit queue s new
  pub out : new.out ≡ s.out

abbrev pub ReceivingLeavesTheRest : Type 0
ReceivingLeavesTheRest = (s : State) → ReceivingLeaves s (after s event.RxStep)

-- The descriptor and the bytes that a `Wrote` reply reports are outside a block.
abbrev pub ReceivesOutside : Reply Block → ℕ → Type 0
ReceivesOutside (Wrote queue slot end desc at len) number = Avoids number desc 16 × Avoids number at len
ReceivesOutside other number = ⊤

-- In memory, a receive step changes only the descriptor and the bytes that its reply reports, so all other blocks are
-- unchanged.
abbrev pub ReceivingLeavesOtherBlocks : Type 0
ReceivingLeavesOtherBlocks =
    (s : State) (number : ℕ) → ReceivesOutside (reply_to s event.RxStep) number
    → LeavesBlock number s (after s event.RxStep)

-- The only side of a queue that a transmit step changes is its own queue's transmit side. It changes no frame in the
-- receive list.
pub record TransmittingLeaves (queue : ℕ) (old new : State) : Type 0 where
  pub sides : LeavesOtherSides Tx queue old new
  pub waiting : new.waiting ≡ old.waiting

abbrev pub TransmittingLeavesTheRest : Type 0
TransmittingLeavesTheRest = (s : State) (queue : ℕ) → TransmittingLeaves queue s (after s (event.TxStep queue))

-- A transmit step writes only the head or descriptor write-back, to the address that its reply reports, so all other
-- blocks are unchanged.
abbrev pub TransmittingLeavesOtherBlocks : Type 0
TransmittingLeavesOtherBlocks =
    (s : State) (queue number : ℕ) →
    ((back : ℕ) → reported_address (reply_to s (event.TxStep queue)) ≡ Some back
    → Avoids number back (report_length (transmit_queue_of s.registers queue).writeback)) →
    LeavesBlock number s (after s (event.TxStep queue))

-- An enable step changes no other side of a queue, no group, no memory and no transmitted frame.
pub record SwitchingLeaves (dir : Dir) (queue : ℕ) (old new : State) : Type 0 where
  pub sides : LeavesOtherSides dir queue old new
  pub groups : (g : Group) → LeavesGroup g old new
  pub memory : LeavesMemory old new
  pub out : new.out ≡ old.out

abbrev pub SwitchingLeavesTheRest : Type 0
SwitchingLeavesTheRest = (s : State) (dir : Dir) (queue : ℕ)
    → SwitchingLeaves dir queue s (after s (event.QueueStep dir queue))

-- An interrupt step for a group changes no queue, no other group, no memory and no frame.
pub record LeavesAllButGroup (g : Group) (old new : State) : Type 0 where
  pub queues : LeavesQueues old new
  pub groups : (other : Group) → other ≢ g → LeavesGroup other old new
  pub memory : LeavesMemory old new
  pub frames : LeavesFrames old new

abbrev pub MessageLeavesTheRest : Type 0
MessageLeavesTheRest = (s : State) (g : Group) → LeavesAllButGroup g s (after s (event.IntStep g))

-- An EEPROM step changes no queue, no group, no memory and no frame.
pub record EepromLeaves (old new : State) : Type 0 where
  pub queues : LeavesQueues old new
  pub groups : (g : Group) → LeavesGroup g old new
  pub memory : LeavesMemory old new
  pub frames : LeavesFrames old new

abbrev pub EepromStepLeavesTheRest : Type 0
EepromStepLeavesTheRest = (s : State) → EepromLeaves s (after s event.EepromStep)

-- A link change, including the cause that it raises, changes no queue, no group except the physical function's, no
-- memory and no frame.
abbrev pub LinkLeavesTheRest : Type 0
LinkLeavesTheRest = (s : State) (up : Bool) → LeavesAllButGroup group.Pf s (after s (event.Link up))

-- Collecting a frame changes no queue, no group, no memory and no frame in the receive list.
pub record CollectingLeaves (old new : State) : Type 0 where
  pub queues : LeavesQueues old new
  pub groups : (g : Group) → LeavesGroup g old new
  pub memory : LeavesMemory old new
  pub waiting : new.waiting ≡ old.waiting

abbrev pub CollectingLeavesTheRest : Type 0
CollectingLeavesTheRest = (s : State) → CollectingLeaves s (after s event.Collect)
