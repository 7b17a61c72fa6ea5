-- What it means to leave a shared device's queue alone: what other passes don't do to the queue after its driver has
-- begun.
use Rattle.std.specs.Prelude.{ℕ, ◌≡◌, ◌≢◌, ◌+◌, ◌/◌, ◌==◌, ◌<◌, ◌≤◌, nat_lt, Bool, true, false, ◌&&◌, ◌||◌, ⊤, IsTrue, IsFalse, List, [], ◌∷◌, ◌++◌, Option, Some, None, if◌then◌else◌}
use Rattle.nic_device.specs.RegTable.Place.{place_among}
use Rattle.nic_device.specs.RegTable.Rows.{row_of}
use Rattle.nic_device.specs.RegTable.Runs.{runs}
use Rattle.nic_device.specs.RegTable.declared.place.Place.{Place}
use Rattle.nic_device.specs.RegTable.declared.rows.RowId.{RowId}
use Rattle.nic_device.specs.RegTable.declared.rows.RowId.TheVariants.{Ctrl, Hlreg0, Maxfrs, GcrExt}
use Rattle.nic_device.specs.VfMap.Map.{located}
use Rattle.nic_device.specs.VfMap.Owner.{has_queue, is_receive, is_transmit}
use Rattle.nic_device.specs.VfMap.Pools.{mode_of}
use Rattle.nic_device.specs.VfMap.declared.located.Located.{Located}
use Rattle.nic_device.specs.VfMap.declared.located.Located.TheVariants as located_as
use Rattle.nic_device.specs.VfMap.declared.mode.Mode.{Mode}
use Rattle.nic_device.specs.VfMap.declared.mode.Mode.TheVariants.{Off}
use Rattle.nic_device.specs.RegisterFile.Access.{asks_reset, asks_pool_reset}
use Rattle.nic_device.specs.DmaArena.Block.{Block}
use Rattle.nic_device.specs.declared.event.Event.{Event}
use Rattle.nic_device.specs.declared.event.Event.TheVariants as event
use Rattle.nic_device.specs.declared.event.Port.{Port}
use Rattle.nic_device.specs.declared.event.Port.TheVariants.{Pf, Vf}
use Rattle.nic_device.specs.declared.event.Reply.{Reply}
use Rattle.nic_device.specs.declared.event.Reply.TheVariants.{Done, Wrote, Advanced, Sent}
use Rattle.device_lock.specs.declared.entry.Entry.{Entry}
use Rattle.device_lock.specs.declared.alone.Watched.{Watched}

-- A set of blocks of packet memory, by number.
abbrev pub Blocks : Type 0
Blocks = ℕ → Bool

-- The register with this number at a port, in this pool mode.

abbrev pub register_at : Located → Option Place
register_at located_as.Absent = None
register_at located_as.Hole = None
register_at (located_as.Register p) = Some p

abbrev pub place_at : Mode → ℕ → Port → ℕ → Option Place
place_at mode vfs Pf address = place_among runs address
place_at mode vfs (Vf v) offset = register_at (located mode vfs v offset)

-- The mode after a write. A write to GCR_EXT sets the mode, and a write to CTRL that requests a device reset sets it to
-- `Off`.
abbrev pub mode_set : Mode → RowId → ℕ → Mode
mode_set mode GcrExt word = mode_of word
mode_set mode Ctrl word = if asks_reset (row_of Ctrl).kind word then Off else mode
mode_set mode other word = mode

abbrev pub mode_written : Mode → Option Place → ℕ → Mode
mode_written mode None word = mode
mode_written mode (Some p) word = mode_set mode p.row word

-- The mode after an event.
abbrev pub mode_after : ℕ → Mode → Event Block → Mode
mode_after vfs mode (event.Write port number word) = mode_written mode (place_at mode vfs port number) word
mode_after vfs mode other = mode

-- The mode after the events of a history that begins in a mode.
abbrev pub mode_through : ℕ → Mode → List Entry → Mode
mode_through vfs mode [] = mode
mode_through vfs mode (e ∷ es) = mode_through vfs (mode_after vfs mode e.event) es

-- Whether this is a device-wide register that a driver relies on.
abbrev pub is_setting : RowId → Bool
is_setting Ctrl = true
is_setting Hlreg0 = true
is_setting Maxfrs = true
is_setting GcrExt = true
is_setting other = false

-- Writing this value to a register changes nothing that the queue relies on. The register isn't one of the settings
-- above and doesn't belong to either side of the queue, and the write requests no reset of the queue's pool.
pub record Spares (queue : ℕ) (mode : Mode) (p : Place) (word : ℕ) : Type 0 where
  pub setting : IsFalse (is_setting p.row)
  pub receive : IsTrue (is_receive p.row) → p.index ≢ queue
  pub transmit : IsTrue (is_transmit p.row) → p.index ≢ queue
  pub pool : IsTrue (asks_pool_reset (row_of p.row).kind word) → IsFalse (has_queue mode p.index queue)

-- The event writes no register that the queue relies on, whatever the address.
abbrev pub SparesIfSome : ℕ → Mode → Option Place → ℕ → Type 0
SparesIfSome queue mode None word = ⊤
SparesIfSome queue mode (Some p) word = Spares queue mode p word

abbrev pub LeavesRegisters : Watched → Mode → Event Block → Type 0
LeavesRegisters w mode (event.Write port number word) = SparesIfSome w.queue mode (place_at mode w.vfs port number) word
LeavesRegisters w mode other = ⊤

-- The event lends, takes or pokes none of these blocks, whatever the reply to the event.
abbrev pub LeavesBlocks : Blocks → Event Block → Type 0
LeavesBlocks mine (event.Lend block) = IsFalse (mine block.number)
LeavesBlocks mine (event.Take number) = IsFalse (mine number)
LeavesBlocks mine (event.Poke16 address bytes) = IsFalse (mine (address / 2048))
LeavesBlocks mine other = ⊤

-- No byte of the range is in any of these blocks.
abbrev pub IsClear : Blocks → ℕ → ℕ → Type 0
IsClear mine at len = (a : ℕ) → at ≤ a → a < at + len → IsFalse (mine (a / 2048))

-- Everything that another queue's step wrote, as its reply reports, is outside these blocks.
abbrev pub WritesOutside : ℕ → Blocks → Reply Block → Type 0
WritesOutside queue mine (Wrote on slot end desc at len) = on ≢ queue → IsClear mine at len × IsClear mine desc 16
WritesOutside queue mine (Advanced on slot (Some back)) = on ≢ queue → IsFalse (mine (back / 2048))
WritesOutside queue mine (Sent on len (Some back)) = on ≢ queue → IsFalse (mine (back / 2048))
WritesOutside queue mine other = ⊤

-- The entry leaves the queue alone, given how the mode divides the queues. The event in another pass's entry leaves the
-- registers and these blocks alone. The reply in any pass's entry reports no write by another queue's step into the
-- blocks.
pub record EntryLeavesAlone (w : Watched) (mine : Blocks) (mode : Mode) (e : Entry) : Type 0 where
  pub registers : e.pass ≢ w.pass → LeavesRegisters w mode e.event
  pub blocks : e.pass ≢ w.pass → LeavesBlocks mine e.event
  pub steps : WritesOutside w.queue mine e.reply

-- Whether the entry lends this block.
abbrev pub lends : Event Block → Reply Block → ℕ → Bool
lends (event.Lend block) Done number = block.number == number
lends event reply number = false

-- Whether the entry belongs to the pass and lends this block. Block numbers are below 65,536.
abbrev pub lent_in : ℕ → Entry → Blocks
lent_in pass e number = nat_lt number 65536 && ((e.pass == pass) && lends e.event e.reply number)

-- The blocks that a pass lends in a history.
abbrev pub lent_by : ℕ → List Entry → Blocks
lent_by pass [] number = false
lent_by pass (e ∷ es) number = lent_in pass e number || lent_by pass es number

-- Whether the pass made an entry of the history.
abbrev pub has_begun : ℕ → List Entry → Bool
has_begun pass [] = false
has_begun pass (e ∷ es) = (e.pass == pass) || has_begun pass es

-- The history leaves the queue of a pass alone: each entry after the pass's first entry leaves the queue alone. The
-- blocks to be left alone are all those that the pass lends anywhere in the history.
abbrev pub LeavesAlone : Watched → List Entry → Type 0
LeavesAlone w h =
    (before : List Entry) (e : Entry) (after : List Entry) → h ≡ before ++ e ∷ after → IsTrue (has_begun w.pass before)
    → EntryLeavesAlone w (lent_by w.pass h) (mode_through w.vfs Off before) e
