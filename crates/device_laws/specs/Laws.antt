-- What the device promises a driver author, whatever events came before. `view` is a mask of the bits that an address
-- shows.
use Rattle.std.specs.Prelude.{ℕ, ◌≡◌, ◌≢◌, ◌<◌, ◌==◌, Bool, ⊤, IsTrue, IsFalse, List, [], ◌∷◌, take, drop, bit_and, if◌then◌else◌}
use Rattle.nic_device.specs.RegTable.declared.kind.Kind.TheVariants.{Rw, Rc}
use Rattle.nic_device.specs.IntrUnit.BitSet.{IsSubset}
use Rattle.nic_device.specs.RegisterFile.Groups.{index_of, reported_by}
use Rattle.nic_device.specs.RegisterFile.Registers.{is_wanted}
use Rattle.nic_device.specs.RegisterLaws.Sound.{pending_bits}
use Rattle.nic_device.specs.Interrupt.{has_group, mode_in}
use Rattle.nic_device.specs.Sound.{IsSound, IsEvent}
use Rattle.nic_device.specs.Step.{step_of, after, reply_to, is_fault}
use Rattle.nic_device.specs.declared.event.Event.TheVariants as event
use Rattle.device_laws.specs.Prelude.{AreApart, Block, Ctrl, Dir, Done, Event, GcrExt, Group, Hlreg0, Idle, Maxfrs}
use Rattle.device_laws.specs.Prelude.{Names, Pf, Place, Register, Reply, State, Stray, Waiting, Word, Wrote, asks_reset}
use Rattle.device_laws.specs.Prelude.{bumped, frame_limit, gives, is_stopped, merged, named, new_state, read_at, row_of}
use Rattle.device_laws.specs.Prelude.{runs, staged_by, triples_of, view_among, word_at}

-- After every event, an interrupt bit is reported only if its cause and its mask are 1.
abbrev pub ReportedIsPending : Type 0
ReportedIsPending =
    (s : State) → IsSound s → (e : Event Block) → IsEvent e → (g : Group) → index_of g < 64 →
    IsSubset (reported_by (after s e).registers g) (pending_bits (after s e).registers g)

-- Plain registers.

-- The physical function accesses an address: the reply to a read, and the state after a write.
abbrev pub reply_to_read : State → ℕ → Reply Block
reply_to_read s address = reply_to s (event.Read Pf address)

abbrev pub after_write : State → ℕ → ℕ → State
after_write s address word = after s (event.Write Pf address word)

-- The bits of a word that an address shows.
abbrev pub shown : ℕ → ℕ → ℕ
shown address word = bit_and word (view_among runs address)

-- The address refers to a plain read/write register.
pub record IsPlain (address : ℕ) (p : Place) : Type 0 where
  pub named : Names address p
  pub plain : (row_of p.row).kind ≡ Rw

-- In a new device, a read of a plain register returns the bits of its reset value that the address shows.
abbrev pub NewDeviceReadsResetValues : Type 0
NewDeviceReadsResetValues =
    (vfs fifo address : ℕ) (p : Place) → IsPlain address p → reply_to_read (new_state vfs fifo) address
    ≡ Word (shown address (row_of p.row).reset)

-- After a write, a read at any address of the register returns the written bits that the row's mask and the write's
-- address let through, and the old bits elsewhere.
abbrev pub WriteShowsAtEachAddress : Type 0
WriteShowsAtEachAddress =
    (s : State) → IsSound s → (a b word : ℕ) (p : Place) → IsPlain a p → IsPlain b p →
    reply_to_read (after_write s a word) b
    ≡ Word (shown b (merged (shown a (row_of p.row).mask) (word_at s.registers.words p) word))

-- A write to one plain register doesn't change what any other plain register reads.
abbrev pub WriteLeavesOtherRegisters : Type 0
WriteLeavesOtherRegisters =
    (s : State) → IsSound s → (a b word : ℕ) (p q : Place) → IsPlain a p → IsPlain b q → q ≢ p →
    reply_to_read (after_write s a word) b ≡ reply_to_read s b

-- A read of a plain register changes nothing.
abbrev pub ReadChangesNothing : Type 0
ReadChangesNothing = (s : State) (address : ℕ) (p : Place) → IsPlain address p → after s (event.Read Pf address) ≡ s

-- An access to an address without a register gets the reply `Stray` with 0 and changes nothing.
abbrev pub StrayAccessChangesNothing : Type 0
StrayAccessChangesNothing =
    (s : State) (address word : ℕ) → ((p : Place) → ¬ Names address p) →
    (step_of s (event.Read Pf address) ≡ gives (Stray 0) s) ×
    (step_of s (event.Write Pf address word) ≡ gives (Stray 0) s)

-- Counters.

-- The address refers to a counter.
pub record IsCounter (address : ℕ) (p : Place) : Type 0 where
  pub named : Names address p
  pub counter : (row_of p.row).kind ≡ Rc

-- After a clear-on-read counter is read, it reads as 0 at each of its addresses.
abbrev pub ReadCounterStartsAgain : Type 0
ReadCounterStartsAgain =
    (s : State) → IsSound s → (a b : ℕ) (p : Place) → IsCounter a p → IsCounter b p →
    reply_to_read (after s (event.Read Pf a)) b ≡ Word 0

-- The address of GPRC.
abbrev pub good_frames : ℕ
good_frames = 0x04074

-- An accepted frame is counted in GPRC: the next read returns one more than it would have returned without the frame,
-- but at most the largest word.
abbrev pub LetInFrameIsCounted : Type 0
LetInFrameIsCounted =
    (s : State) → IsSound s → (frame : List ℕ) → reply_to s (event.Arrive frame) ≡ Done →
    (word : ℕ) → reply_to_read s good_frames ≡ Word word →
    reply_to_read (after s (event.Arrive frame)) good_frames ≡ Word (bumped word)

-- Resets and settings.

-- The receive list is empty and nothing is staged. Lent memory, transmitted frames, the link, the image and the
-- configuration are unchanged.
pub record IsReset (old new : State) : Type 0 where
  pub waiting : new.waiting ≡ []
  pub staged : (queue : ℕ) → queue < 128 → staged_by new queue ≡ []
  pub memory : new.memory ≡ old.memory
  pub out : new.out ≡ old.out
  pub link : new.link ≡ old.link
  pub image : new.image ≡ old.image
  pub vfs : new.vfs ≡ old.vfs
  pub fifo : new.fifo ≡ old.fifo

-- A write that requests a device reset resets the device and has no other effect.
abbrev pub AskedResetResets : Type 0
AskedResetResets =
    (s : State) (address word : ℕ) (p : Place) → Names address p → IsTrue (asks_reset (row_of p.row).kind word) →
    IsReset s (after_write s address word)

-- Each register has its reset value, no side of a queue has an enable request, and no interrupt bit is reported.
pub record HasResetValues (s : State) : Type 0 where
  pub words : (p : Place) → p.index < (row_of p.row).count → word_at s.registers.words p ≡ (row_of p.row).reset
  pub wanted : (dir : Dir) (queue : ℕ) → queue < 128 → IsFalse (is_wanted s.registers dir queue)
  pub reported : (g : Group) → index_of g < 64 → reported_by s.registers g ≡ 0

-- If the image writes no register, a reset gives each register its reset value.
abbrev pub ResetGivesResetValues : Type 0
ResetGivesResetValues =
    (s : State) (address word : ℕ) (p : Place) → Names address p → IsTrue (asks_reset (row_of p.row).kind word) →
    triples_of s.image ≡ [] → HasResetValues (after_write s address word)

-- The place is neither a register that sets the frame limit or the pool mode, nor the register that requests a device
-- reset.
pub record IsOfNoSetting (p : Place) : Type 0 where
  pub control : p.row ≢ Ctrl
  pub jumbo : p.row ≢ Hlreg0
  pub limit : p.row ≢ Maxfrs
  pub mode : p.row ≢ GcrExt

abbrev pub WritesNoSetting : State → Event Block → Type 0
WritesNoSetting s (event.Write port number word) =
    (p : Place) (view : ℕ) → named s port number ≡ Register p view → IsOfNoSetting p
WritesNoSetting s other = ⊤

-- The frame limit and the division of queues into pools are unchanged.
pub record KeepsSettings (old new : State) : Type 0 where
  pub limit : frame_limit new.registers ≡ frame_limit old.registers
  pub mode : mode_in new.registers ≡ mode_in old.registers

abbrev pub OtherEventsKeepSettings : Type 0
OtherEventsKeepSettings = (s : State) (e : Event Block) → WritesNoSetting s e → KeepsSettings s (after s e)

-- Delivery.

-- The first `len` unwritten bytes of the first frame in the receive list.
abbrev pub piece_of : List Waiting → ℕ → List ℕ
piece_of [] len = []
piece_of (w ∷ others) len = take len (drop w.offset w.frame)

-- The bytes of the first frame in the receive list that a reply reports as written for a queue.
abbrev pub piece_on : ℕ → List Waiting → Reply Block → List ℕ
piece_on queue waiting (Wrote on slot end desc at len) = if on == queue then piece_of waiting len else []
piece_on queue waiting other = []

-- The frame bytes that one event writes for a queue. Only a receive step writes any.
abbrev pub wrote : ℕ → State → Event Block → List ℕ
wrote queue s event.RxStep = piece_on queue s.waiting (reply_to s event.RxStep)
wrote queue s other = []

-- After a piece is written, memory contains its bytes at the reported address, unless the piece overlaps the
-- descriptor.
abbrev pub PieceIsReadBack : Type 0
PieceIsReadBack =
    (s : State) → IsSound s → (queue slot : ℕ) (end : Bool) (desc at len : ℕ) →
    reply_to s event.RxStep ≡ Wrote queue slot end desc at len → AreApart at len desc 16 →
    read_at (after s event.RxStep).memory at len ≡ wrote queue s event.RxStep

-- Faults, and a device with disabled bus mastering, which takes no steps.

-- An event whose reply is a fault changes no memory.
abbrev pub FaultChangesNoMemory : Type 0
FaultChangesNoMemory = (s : State) (e : Event Block) → IsTrue (is_fault (reply_to s e)) → (after s e).memory ≡ s.memory

-- While CTRL bit 2 is 1, every receive step, every step for a queue below 128 or an existing group, and every EEPROM
-- step is idle and changes nothing.
pub record StopsAllSteps (s : State) : Type 0 where
  pub receive : step_of s event.RxStep ≡ gives Idle s
  pub transmit : (queue : ℕ) → queue < 128 → step_of s (event.TxStep queue) ≡ gives Idle s
  pub interrupt : (g : Group) → IsTrue (has_group s g) → step_of s (event.IntStep g) ≡ gives Idle s
  pub switch : (dir : Dir) (queue : ℕ) → queue < 128 → step_of s (event.QueueStep dir queue) ≡ gives Idle s
  pub eeprom : step_of s event.EepromStep ≡ gives Idle s

abbrev pub StoppedDeviceIsIdle : Type 0
StoppedDeviceIsIdle = (s : State) → IsTrue (is_stopped s.registers) → StopsAllSteps s
