-- Whether nothing tried to enable a queue before its driver's start, according to the entries since the device was new.
use Rattle.std.specs.Prelude.{ℕ, ◌≡◌, ◌==◌, ◌&&◌, Bool, true, false, IsFalse, List, ◌∷◌, ◌++◌, length, Option, Some, None}
use Rattle.pmd_driver.specs.NicDevice.DmaArena.Block.{Block}
use Rattle.pmd_driver.specs.NicDevice.RegTable.declared.place.Place.{Place}
use Rattle.pmd_driver.specs.NicDevice.RegTable.declared.rows.RowId.{RowId}
use Rattle.pmd_driver.specs.NicDevice.RegTable.declared.rows.RowId.TheVariants.{Rxdctl, Txdctl}
use Rattle.pmd_driver.specs.NicDevice.RegisterFile.Bits.{has_bit}
use Rattle.pmd_driver.specs.NicDevice.VfMap.declared.mode.Mode.{Mode}
use Rattle.pmd_driver.specs.NicDevice.declared.event.Event.{Event}
use Rattle.pmd_driver.specs.NicDevice.declared.event.Event.TheVariants as event
use Rattle.pmd_driver.specs.DeviceLock.Alone.{place_at}
use Rattle.pmd_driver.specs.DeviceLock.Reported.{first_settings, settings_through}
use Rattle.pmd_driver.specs.DeviceLock.declared.alone.Watched.{Watched}
use Rattle.pmd_driver.specs.DeviceLock.declared.entry.Call.{Call}
use Rattle.pmd_driver.specs.DeviceLock.declared.entry.Entry.{Entry}
use Rattle.pmd.specs.Starts.{Starts}

-- The place is the enable register of one of the queue's sides.

abbrev pub is_enable_row : RowId → Bool
is_enable_row Rxdctl = true
is_enable_row Txdctl = true
is_enable_row other = false

abbrev pub is_enable : ℕ → Option Place → Bool
is_enable queue None = false
is_enable queue (Some p) = is_enable_row p.row && (p.index == queue)

-- The event tries to enable the queue, given the pool mode: it writes a value with bit 25 set to an enable register,
-- through any port and address.
abbrev pub asks_on : Watched → Mode → Event Block → Bool
asks_on w mode (event.Write port number word) = is_enable w.queue (place_at mode w.vfs port number) && has_bit 25 word
asks_on w mode other = false

-- No entry of a new device's history tries to enable the queue.
abbrev pub NoneAsksOn : Watched → List Entry → Type 0
NoneAsksOn w h =
    (before : List Entry) (e : Entry) (following : List Entry) → before ++ e ∷ following ≡ h →
    IsFalse (asks_on w (settings_through w.vfs first_settings before).mode e.event)

-- No entry before the driver's first entry tries to enable the queue. The driver's first entry comes after `from` calls
-- made by its pass.
abbrev pub NeverAskedOn : Watched → ℕ → List Entry → Type 0
NeverAskedOn w from h =
    (old : List Call) → length old ≡ from → (x : Starts w.pass old h) → NoneAsksOn w x.before
