-- The entry from which a history counts for a driver, and how the queues are separated into pools at an entry. Both are
-- stated by addresses and bits.
use Rattle.std.specs.Prelude.{◌≡◌, ◌/◌, ◌%◌, ◌==◌, ◌||◌, ℕ, Bool, true, false, List, [], ◌∷◌, Some, None}
use Rattle.device_lock.specs.NicDevice.RegTable.declared.rows.RowId.TheVariants as row
use Rattle.device_lock.specs.NicDevice.VfMap.declared.mode.Mode.TheVariants.{Off, Pools16, Pools32, Pools64}
use Rattle.device_lock.specs.NicDevice.declared.event.Event.TheVariants as event
use Rattle.ring_laws.specs.LocksPrelude.{Block, Done, Entry, Event, Mode, Pf, Place, Port, RowId}
use Rattle.ring_laws.specs.LocksPrelude.{has_begun, mode_through, place_at}

-- In a history, a driver begins with the first entry of its pass, whatever event that entry records, including a read
-- or a device step.
pub record DriverBegins (pass : ℕ) (e : Entry) (h : List Entry) : Type 0 where
  pub none : has_begun pass [] ≡ false
  pub one : has_begun pass (e ∷ h) ≡ ((e.pass == pass) || has_begun pass h)

abbrev pub DriversBegin : Type 0
DriversBegin = (pass : ℕ) (e : Entry) (h : List Entry) → DriverBegins pass e h

-- The entry for a write by a pass, with the reply `Done`.
abbrev pub written : ℕ → Port → (number word : ℕ) → Entry
written pass port number word = record { pass = pass; event = event.Write port number word; reply = Done }

-- `is_write`: whether an event is a write. `is_of_mode`: whether a write to a register can change how the queues are
-- separated.
abbrev pub is_write : Event Block → Bool
is_write (event.Write port number word) = true
is_write other = false

abbrev pub is_of_mode : RowId → Bool
is_of_mode row.GcrExt = true
is_of_mode row.Ctrl = true
is_of_mode other = false

-- After a write to GCR_EXT, at 0x11050, bits 1 to 0 of its value determine how queues are separated, starting with the
-- next entry.
pub record PoolsAreSet (vfs : ℕ) (mode : Mode) (pass word : ℕ) (h : List Entry) : Type 0 where
  pub off : word % 4 ≡ 0 → mode_through vfs mode (written pass Pf 0x11050 word ∷ h) ≡ mode_through vfs Off h
  pub by_16 : word % 4 ≡ 1 → mode_through vfs mode (written pass Pf 0x11050 word ∷ h) ≡ mode_through vfs Pools16 h
  pub by_32 : word % 4 ≡ 2 → mode_through vfs mode (written pass Pf 0x11050 word ∷ h) ≡ mode_through vfs Pools32 h
  pub by_64 : word % 4 ≡ 3 → mode_through vfs mode (written pass Pf 0x11050 word ∷ h) ≡ mode_through vfs Pools64 h

-- After a write to CTRL, at this address, that sets bit 3 or bit 26, the queues aren't separated. After any other write
-- to CTRL, they are separated as before.
pub record PoolsAreReset (vfs : ℕ) (mode : Mode) (pass number word : ℕ) (h : List Entry) : Type 0 where
  pub bit_3 : word / 8 % 2 ≡ 1 → mode_through vfs mode (written pass Pf number word ∷ h) ≡ mode_through vfs Off h
  pub bit_26 : word / 8 % 2 ≡ 0 → word / 0x4000000 % 2 ≡ 1 →
      mode_through vfs mode (written pass Pf number word ∷ h) ≡ mode_through vfs Off h
  pub neither : word / 8 % 2 ≡ 0 → word / 0x4000000 % 2 ≡ 0 →
      mode_through vfs mode (written pass Pf number word ∷ h) ≡ mode_through vfs mode h

-- No other write or event changes how the queues are separated.
pub record PoolsAreLeft (vfs : ℕ) (mode : Mode) (e : Entry) (h : List Entry) : Type 0 where
  pub none : mode_through vfs mode [] ≡ mode
  pub nowhere : (pass : ℕ) (port : Port) (number word : ℕ) → place_at mode vfs port number ≡ None →
      mode_through vfs mode (written pass port number word ∷ h) ≡ mode_through vfs mode h
  pub elsewhere : (pass : ℕ) (port : Port) (number word : ℕ) (p : Place) → place_at mode vfs port number ≡ Some p →
      is_of_mode p.row ≡ false → mode_through vfs mode (written pass port number word ∷ h) ≡ mode_through vfs mode h
  pub other : is_write e.event ≡ false → mode_through vfs mode (e ∷ h) ≡ mode_through vfs mode h

abbrev pub PoolsAreFollowed : Type 0
PoolsAreFollowed =
    (vfs : ℕ) (mode : Mode) (pass word : ℕ) (h : List Entry) →
    PoolsAreSet vfs mode pass word h × PoolsAreReset vfs mode pass 0x00000 word h
    × PoolsAreReset vfs mode pass 0x00004 word h

abbrev pub PoolsStay : Type 0
PoolsStay = (vfs : ℕ) (mode : Mode) (e : Entry) (h : List Entry) → PoolsAreLeft vfs mode e h
