-- Which events of other passes leave a driver's queue alone, stated by the names of registers and the bits of the
-- values written.
use Rattle.std.specs.Prelude.{◌≡◌, ◌≢◌, ◌↔◌, ◌+◌, ◌/◌, ◌%◌, ◌<◌, ◌≤◌, ◌==◌, ◌||◌, ℕ, Bool, true, false}
use Rattle.std.specs.Prelude.{List, [], ◌∷◌, ◌++◌, ◌&&◌, nat_lt, Some, None}
use Rattle.device_lock.specs.NicDevice.RegTable.declared.rows.RowId.TheVariants as row
use Rattle.device_lock.specs.NicDevice.VfMap.declared.mode.Mode.TheVariants.{Off, Pools16, Pools32, Pools64}
use Rattle.device_lock.specs.NicDevice.declared.event.Event.TheVariants as event
use Rattle.device_lock.specs.NicDevice.declared.event.Reply.TheVariants as reply
use Rattle.ring_laws.specs.LocksPrelude.{Dir, Group, RingFault, Why}
use Rattle.ring_laws.specs.LocksPrelude.{Place, RowId, Mode, Block, Event, Port, Pf, Reply, Done, Wrote, Advanced, Sent}
use Rattle.ring_laws.specs.LocksPrelude.{Blocks, LeavesAlone, LeavesBlocks, LeavesRegisters, WritesOutside, lent_by}
use Rattle.ring_laws.specs.LocksPrelude.{has_begun, mode_through, place_at, Watched, Entry}

-- The device-wide registers that a driver's queue relies on.
abbrev pub is_setting : RowId → Bool
is_setting row.Ctrl = true
is_setting row.Hlreg0 = true
is_setting row.Maxfrs = true
is_setting row.GcrExt = true
is_setting other = false

-- The registers of a ring.
abbrev pub is_ring : RowId → Bool
is_ring row.Rdbal = true
is_ring row.Rdbah = true
is_ring row.Rdlen = true
is_ring row.Rdh = true
is_ring row.Srrctl = true
is_ring row.Rdt = true
is_ring row.Rxdctl = true
is_ring row.Tdbal = true
is_ring row.Tdbah = true
is_ring row.Tdlen = true
is_ring row.Tdh = true
is_ring row.Tdt = true
is_ring row.Txdctl = true
is_ring row.Tdwbal = true
is_ring row.Tdwbah = true
is_ring other = false

-- The register that resets a pool.
abbrev pub is_reset : RowId → Bool
is_reset row.Pvfctrl = true
is_reset other = false

-- Pool v contains queue q: with 16 pools the eight queues starting at 8v, with 32 the four starting at 4v, and with 64
-- the two starting at 2v.
abbrev pub pool_has : Mode → ℕ → ℕ → Bool
pool_has Off v q = false
pool_has Pools16 v q = q / 8 == v
pool_has Pools32 v q = q / 4 == v
pool_has Pools64 v q = q / 2 == v

-- A write that reaches a register doesn't leave the queue alone in three cases. The register is CTRL, HLREG0, MAXFRS or
-- GCR_EXT. Or it belongs to the queue's own rings. Or it is the PVFCTRL of the queue's pool, and bit 26 of the value is
-- 1. Any other write leaves the queue alone.
pub record WriteLeaves (w : Watched) (mode : Mode) (write : Event Block) (p : Place) (word : ℕ) : Type 0 where
  pub setting : is_setting p.row ≡ true → LeavesRegisters w mode write → ⊥
  pub own_ring : is_ring p.row ≡ true → p.index ≡ w.queue → LeavesRegisters w mode write → ⊥
  pub other_ring : is_ring p.row ≡ true → p.index ≢ w.queue → LeavesRegisters w mode write
  pub own_pool : is_reset p.row ≡ true → word / 0x4000000 % 2 ≡ 1 → pool_has mode p.index w.queue ≡ true →
      LeavesRegisters w mode write → ⊥
  pub other_pool : is_reset p.row ≡ true → pool_has mode p.index w.queue ≡ false → LeavesRegisters w mode write
  pub no_reset : is_reset p.row ≡ true → word / 0x4000000 % 2 ≡ 0 → LeavesRegisters w mode write
  pub other : (is_setting p.row || (is_ring p.row || is_reset p.row)) ≡ false → LeavesRegisters w mode write

-- A write leaves the queue alone if it reaches no register. Otherwise, this depends on the register and the value, as
-- `WriteLeaves` states.
pub record WritesLeave (w : Watched) (mode : Mode) (port : Port) (number word : ℕ) : Type 0 where
  pub register : (p : Place) → place_at mode w.vfs port number ≡ Some p →
      WriteLeaves w mode (event.Write port number word) p word
  pub none : place_at mode w.vfs port number ≡ None → LeavesRegisters w mode (event.Write port number word)

abbrev pub WritesLeaveQueues : Type 0
WritesLeaveQueues =
    (w : Watched) (mode : Mode) (port : Port) (number word : ℕ) → w.queue < 128 → WritesLeave w mode port number word

-- By the datasheet's addresses: a write to FCTRL leaves the queue alone; a write to CTRL, at either of its addresses,
-- HLREG0, MAXFRS or GCR_EXT doesn't.
pub record AddressesLeave (w : Watched) (mode : Mode) (word : ℕ) : Type 0 where
  pub filter : LeavesRegisters w mode (event.Write Pf 0x05080 word)
  pub control : LeavesRegisters w mode (event.Write Pf 0x00000 word) → ⊥
  pub control_again : LeavesRegisters w mode (event.Write Pf 0x00004 word) → ⊥
  pub padding : LeavesRegisters w mode (event.Write Pf 0x04240 word) → ⊥
  pub limit : LeavesRegisters w mode (event.Write Pf 0x04268 word) → ⊥
  pub pools : LeavesRegisters w mode (event.Write Pf 0x11050 word) → ⊥

abbrev pub AddressesLeaveQueues : Type 0
AddressesLeaveQueues = (w : Watched) (mode : Mode) (word : ℕ) → AddressesLeave w mode word

-- An event that lends, takes or pokes a block touches only that block. A write to a register touches no block.
pub record BlocksLeave (w : Watched) (mode : Mode) (mine : Blocks) : Type 0 where
  pub lend : (block : Block) → LeavesBlocks mine (event.Lend block) ↔ (mine block.number ≡ false)
  pub take : (number : ℕ) → LeavesBlocks mine (event.Take number) ↔ (mine number ≡ false)
  pub poke : (address : ℕ) (bytes : List ℕ) →
      LeavesBlocks mine (event.Poke16 address bytes) ↔ (mine (address / 2048) ≡ false)
  pub write : (port : Port) (number word : ℕ) → LeavesBlocks mine (event.Write port number word)

-- Whatever a step of another queue wrote, as its reply reports, is in none of the driver's blocks. This applies to the
-- piece of a frame, the 16 bytes of its descriptor, and the reported head.
pub record StepsLeave (queue : ℕ) (mine : Blocks) : Type 0 where
  pub piece : (q slot desc at len : ℕ) (end : Bool) → q ≢ queue →
      WritesOutside queue mine (Wrote q slot end desc at len)
      ↔ (((a : ℕ) → at ≤ a → a < at + len → mine (a / 2048) ≡ false)
      × ((a : ℕ) → desc ≤ a → a < desc + 16 → mine (a / 2048) ≡ false))
  pub own : (slot desc at len : ℕ) (end : Bool) → WritesOutside queue mine (Wrote queue slot end desc at len)
  pub head : (q slot back : ℕ) → q ≢ queue →
      WritesOutside queue mine (Advanced q slot (Some back)) ↔ (mine (back / 2048) ≡ false)
  pub sent_head : (q len back : ℕ) → q ≢ queue →
      WritesOutside queue mine (Sent q len (Some back)) ↔ (mine (back / 2048) ≡ false)
  pub no_head : (q slot : ℕ) → WritesOutside queue mine (Advanced q slot None)
  pub no_sent_head : (q len : ℕ) → WritesOutside queue mine (Sent q len None)

-- An event touches no register of the queue and none of these blocks.
abbrev pub Leaves : Watched → Mode → Blocks → Event Block → Type 0
Leaves w mode mine e = LeavesRegisters w mode e × LeavesBlocks mine e

-- Lending, taking and poking touch no register. All events other than these and a write touch neither registers nor
-- blocks, for example a read, a peek at a block, or a device step. Whether a device step leaves the queue alone depends
-- only on its reply.
pub record EventsLeave (w : Watched) (mode : Mode) (mine : Blocks) : Type 0 where
  pub lend : (block : Block) → LeavesRegisters w mode (event.Lend block)
  pub take : (number : ℕ) → LeavesRegisters w mode (event.Take number)
  pub poke : (address : ℕ) (bytes : List ℕ) → LeavesRegisters w mode (event.Poke16 address bytes)
  pub read : (port : Port) (number : ℕ) → Leaves w mode mine (event.Read port number)
  pub peek : (address : ℕ) → Leaves w mode mine (event.Peek16 address)
  pub arrive : (frame : List ℕ) → Leaves w mode mine (event.Arrive frame)
  pub rx : Leaves w mode mine event.RxStep
  pub tx : (queue : ℕ) → Leaves w mode mine (event.TxStep queue)
  pub int : (group : Group) → Leaves w mode mine (event.IntStep group)
  pub switch : (dir : Dir) (queue : ℕ) → Leaves w mode mine (event.QueueStep dir queue)
  pub eeprom : Leaves w mode mine event.EepromStep
  pub link : (up : Bool) → Leaves w mode mine (event.Link up)
  pub collect : Leaves w mode mine event.Collect

-- No other reply reports a write into a block, for any queue.
pub record RepliesLeave (queue : ℕ) (mine : Blocks) : Type 0 where
  pub word : (word : ℕ) → WritesOutside queue mine (reply.Word word)
  pub stray : (word : ℕ) → WritesOutside queue mine (reply.Stray word)
  pub done : WritesOutside queue mine reply.Done
  pub bytes : (bytes : List ℕ) → WritesOutside queue mine (reply.Bytes bytes)
  pub buf : (block : Block) → WritesOutside queue mine (reply.Buf block)
  pub twice : (block : Block) → WritesOutside queue mine (reply.Twice block)
  pub not_lent : WritesOutside queue mine reply.NotLent
  pub misaligned : WritesOutside queue mine reply.Misaligned
  pub no_queue : WritesOutside queue mine reply.NoQueue
  pub no_group : WritesOutside queue mine reply.NoGroup
  pub idle : WritesOutside queue mine reply.Idle
  pub dropped : (why : Why) → WritesOutside queue mine (reply.Dropped why)
  pub fault : (q : ℕ) (fault : RingFault) → WritesOutside queue mine (reply.Fault q fault)
  pub message : (group : Group) (vector : ℕ) → WritesOutside queue mine (reply.Message group vector)
  pub frame : (q : ℕ) (bytes : List ℕ) → WritesOutside queue mine (reply.Frame q bytes)

abbrev pub OthersLeaveQueues : Type 0
OthersLeaveQueues =
    (w : Watched) (mode : Mode) (mine : Blocks) → BlocksLeave w mode mine × StepsLeave w.queue mine

abbrev pub NothingElseCounts : Type 0
NothingElseCounts =
    (w : Watched) (mode : Mode) (mine : Blocks) → EventsLeave w mode mine × RepliesLeave w.queue mine

-- Whether an event lends the block with this number: the event requests this, and the reply is `Done`.
abbrev pub lends_one : Event Block → Reply Block → ℕ → Bool
lends_one (event.Lend block) Done number = block.number == number
lends_one event reply number = false

-- The blocks of a driver's pass are those below 65,536 that one of its entries lends, anywhere in the history.
pub record BlocksAreOfPass (pass number : ℕ) (h : List Entry) (e : Entry) : Type 0 where
  pub none : lent_by pass [] number ≡ false
  pub one_more : lent_by pass (e ∷ h) number
      ≡ ((nat_lt number 65536 && ((e.pass == pass) && lends_one e.event e.reply number)) || lent_by pass h number)

abbrev pub BlocksAreOfTheirPass : Type 0
BlocksAreOfTheirPass = (pass number : ℕ) (h : List Entry) (e : Entry) → BlocksAreOfPass pass number h e

-- If the entry is another pass's, it leaves the queue's registers and the blocks of the driver's pass alone. Whichever
-- pass the entry has, a step of another queue writes into none of these blocks.
pub record EntrySpares (w : Watched) (h before : List Entry) (e : Entry) : Type 0 where
  pub registers : e.pass ≢ w.pass → LeavesRegisters w (mode_through w.vfs Off before) e.event
  pub blocks : e.pass ≢ w.pass → LeavesBlocks (lent_by w.pass h) e.event
  pub step : WritesOutside w.queue (lent_by w.pass h) e.reply

-- A history leaves the queue alone if each entry after the first entry of the driver's pass leaves the queue alone.
abbrev pub SparingIsEnough : Type 0
SparingIsEnough =
    (w : Watched) (h : List Entry) →
    ((before : List Entry) (e : Entry) (after : List Entry) → h ≡ before ++ e ∷ after →
    has_begun w.pass before ≡ true → EntrySpares w h before e) → LeavesAlone w h

-- Only entries after the first entry of the driver's pass count. If one such entry is another pass's and doesn't leave
-- the queue's registers or the pass's blocks alone, the history doesn't leave the queue alone. The same is true if one
-- such entry, of any pass, is a step of another queue that writes into these blocks.
pub record HistoriesLeave (w : Watched) (h : List Entry) (e : Entry) : Type 0 where
  pub before : has_begun w.pass h ≡ false → LeavesAlone w (h ++ e ∷ [])
  pub register : (after : List Entry) → has_begun w.pass h ≡ true → e.pass ≢ w.pass →
      (LeavesRegisters w (mode_through w.vfs Off h) e.event → ⊥) → LeavesAlone w (h ++ e ∷ after) → ⊥
  pub block : (after : List Entry) → has_begun w.pass h ≡ true → e.pass ≢ w.pass →
      (LeavesBlocks (lent_by w.pass (h ++ e ∷ after)) e.event → ⊥) → LeavesAlone w (h ++ e ∷ after) → ⊥
  pub step : (after : List Entry) → has_begun w.pass h ≡ true →
      (WritesOutside w.queue (lent_by w.pass (h ++ e ∷ after)) e.reply → ⊥) → LeavesAlone w (h ++ e ∷ after) → ⊥

abbrev pub HistoriesLeaveQueues : Type 0
HistoriesLeaveQueues = (w : Watched) (h : List Entry) (e : Entry) → HistoriesLeave w h e
