-- In terms of register bits: when an arriving frame is accepted, where it waits, and why other frames are dropped.
use Rattle.std.specs.Prelude.{ℕ, ◌≡◌, ◌≢◌, ◌<◌, ◌≤◌, ◌⊎◌, ◌↔◌, ◌-◌, ◌/◌, ◌%◌, IsTrue, IsFalse, List, [], ◌∷◌, ◌++◌, length, Some, None, Ok}
use Rattle.nic_device.specs.RegTable.declared.rows.RowId.TheVariants.{Rxctrl, Hlreg0, Maxfrs, VtCtl, Mrqc, GcrExt, Vfre}
use Rattle.nic_device.specs.RxFilter.Pools.{selected_pool}
use Rattle.nic_device.specs.declared.event.Event.TheVariants as event
use Rattle.nic_device.specs.declared.event.Why.TheVariants.{LinkDown, Off, Short, Long, Filter, NoPool, PoolOff, Full}
use Rattle.datasheet_laws.specs.FramePrelude.{Block, Done, Dropped, IsSound, Registers, Reply, State, Target, Waiting, Why}
use Rattle.datasheet_laws.specs.FramePrelude.{after, passes, reply_to, sorted, word_of}
use Rattle.datasheet_laws.specs.Bits.{bit, field}

-- The length of the longest frame, in bytes. While HLREG0 bit 2 is 0, it is 1,514. While the bit is 1, it is MAXFRS
-- bits 31 to 16 minus 4, but at least 0.
abbrev pub IsLimit : Registers → ℕ → Type 0
IsLimit r limit =
    ((bit 2 (word_of r Hlreg0 0) ≡ 0) × (limit ≡ 1514))
    ⊎ ((bit 2 (word_of r Hlreg0 0) ≡ 1) × (limit ≡ field 31 16 (word_of r Maxfrs 0) - 4))

pub record IsAboveLimit (r : Registers) (frame : List ℕ) : Type 0 where
  pub limit : ℕ
  pub is : IsLimit r limit
  pub above : limit < length frame

pub record IsWithinLimit (r : Registers) (frame : List ℕ) : Type 0 where
  pub limit : ℕ
  pub is : IsLimit r limit
  pub within : length frame ≤ limit

-- MRQC bits 3 to 0 distribute frames among pools.
abbrev pub PartsByMrqc : Registers → Type 0
PartsByMrqc r =
    let code = field 3 0 (word_of r Mrqc 0) in (code ≡ 8) ⊎ ((code ≡ 0xA) ⊎ (code ≡ 0xB))

-- A pool has no queues: it is above 15 while GCR_EXT bits 1 to 0 are 1 and MRQC distributes frames among pools, or
-- above 31 while they aren't 1 and MRQC bits 3 to 0 are 0xA.
abbrev pub LacksQueues : Registers → ℕ → Type 0
LacksQueues r pool =
    ((field 1 0 (word_of r GcrExt 0) ≡ 1) × PartsByMrqc r × (15 < pool))
    ⊎ ((field 1 0 (word_of r GcrExt 0) ≢ 1) × (field 3 0 (word_of r Mrqc 0) ≡ 0xA) × (31 < pool))

-- A frame has a pool with queues. `selected_pool` is the lowest pool of the first address that is its destination, or
-- the default pool.
pub record HasPool (r : Registers) (frame : List ℕ) (pool : ℕ) : Type 0 where
  pub meant : selected_pool r frame ≡ Some pool
  pub exists : ¬ LacksQueues r pool

-- A frame has no pool with queues.
pub record IsBeyond (r : Registers) (frame : List ℕ) : Type 0 where
  pub pool : ℕ
  pub meant : selected_pool r frame ≡ Some pool
  pub lacks : LacksQueues r pool

abbrev pub HasNoPool : Registers → List ℕ → Type 0
HasNoPool r frame = (selected_pool r frame ≡ None) ⊎ IsBeyond r frame

-- A pool's bit in VFRE: VFRE[0] covers pools 0 to 31, VFRE[1] pools 32 to 63.
abbrev pub receive_bit : Registers → ℕ → ℕ
receive_bit r pool = bit (pool % 32) (word_of r Vfre (pool / 32))

-- The frame's pool accepts frames (`HasPoolOn`) or doesn't accept frames (`HasPoolOff`).
pub record HasPoolOn (r : Registers) (frame : List ℕ) : Type 0 where
  pub pool : ℕ
  pub has : HasPool r frame pool
  pub on : receive_bit r pool ≡ 1

pub record HasPoolOff (r : Registers) (frame : List ℕ) : Type 0 where
  pub pool : ℕ
  pub has : HasPool r frame pool
  pub off : receive_bit r pool ≡ 0

-- A frame is heard if the link is up and reception is enabled.
pub record IsHeard (s : State) : Type 0 where
  pub link : IsTrue s.link
  pub on : bit 0 (word_of s.registers Rxctrl 0) ≡ 1

-- A frame is taken if it is also neither too short nor too long.
pub record IsTaken (s : State) (frame : List ℕ) : Type 0 where
  pub heard : IsHeard s
  pub enough : 60 ≤ length frame
  pub within : IsWithinLimit s.registers frame

-- A frame is passed if its destination also passes the filter.
pub record IsPassed (s : State) (frame : List ℕ) : Type 0 where
  pub taken : IsTaken s frame
  pub let_by : IsTrue (passes s.registers frame)

-- A frame is welcome if, in addition, VT_CTL bit 0 is 0 or its pool accepts frames.
pub record IsWelcome (s : State) (frame : List ℕ) : Type 0 where
  pub passed : IsPassed s frame
  pub pool : (bit 0 (word_of s.registers VtCtl 0) ≡ 0) ⊎ HasPoolOn s.registers frame

-- Frames are distributed among pools: VT_CTL bit 0 is 1.
abbrev pub PartsAmongPools : Registers → Type 0
PartsAmongPools r = bit 0 (word_of r VtCtl 0) ≡ 1

-- Each reason to drop a frame, if no earlier one applies.
abbrev pub IsDroppedFor : State → List ℕ → Why → Type 0
IsDroppedFor s frame LinkDown = IsFalse s.link
IsDroppedFor s frame Off = IsTrue s.link × (bit 0 (word_of s.registers Rxctrl 0) ≡ 0)
IsDroppedFor s frame Short = IsHeard s × (length frame < 60)
IsDroppedFor s frame Long = IsHeard s × (60 ≤ length frame) × IsAboveLimit s.registers frame
IsDroppedFor s frame Filter = IsTaken s frame × IsFalse (passes s.registers frame)
IsDroppedFor s frame NoPool = IsPassed s frame × PartsAmongPools s.registers × HasNoPool s.registers frame
IsDroppedFor s frame PoolOff = IsPassed s frame × PartsAmongPools s.registers × HasPoolOff s.registers frame
IsDroppedFor s frame Full = IsWelcome s frame × (s.fifo ≤ length s.waiting)
IsDroppedFor s frame other = ⊥

-- The reason for each reply to an arriving frame.
abbrev pub IsAnswered : State → List ℕ → Reply Block → Type 0
IsAnswered s frame Done = IsWelcome s frame × (length s.waiting < s.fifo)
IsAnswered s frame (Dropped why) = IsDroppedFor s frame why
IsAnswered s frame other = ⊥

-- An arriving frame gets a reply if and only if its reason applies and no earlier one does.
abbrev pub ArrivingHasAnOrder : Type 0
ArrivingHasAnOrder =
    (s : State) → IsSound s → (frame : List ℕ) (reply : Reply Block) →
    (reply_to s (event.Arrive frame) ≡ reply) ↔ IsAnswered s frame reply

-- A frame is appended to the receive list with its bytes, its queue, its hash and its RSS type, and with no part of it
-- written yet. The other frames are unchanged.
pub record Joins (s : State) (frame : List ℕ) (new : State) : Type 0 where
  pub last : Waiting
  pub waiting : new.waiting ≡ s.waiting ++ last ∷ []
  pub bytes : last.frame ≡ frame
  pub unbegun : last.offset ≡ 0
  pub target : Target
  pub goes : sorted s.registers frame ≡ Ok target
  pub queue : last.queue ≡ target.queue
  pub hash : last.hash ≡ target.hash
  pub rss : last.rss ≡ target.rss

-- The receive list after a frame arrived: if the reply says that the frame is accepted, the frame is appended;
-- otherwise the list is unchanged.
abbrev pub WaitsAfterArriving : State → List ℕ → Reply Block → State → Type 0
WaitsAfterArriving s frame Done new = Joins s frame new
WaitsAfterArriving s frame other new = new.waiting ≡ s.waiting

abbrev pub FramesJoinLast : Type 0
FramesJoinLast =
    (s : State) (frame : List ℕ) →
    WaitsAfterArriving s frame (reply_to s (event.Arrive frame)) (after s (event.Arrive frame))
