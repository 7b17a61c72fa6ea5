-- Whether accepted frames fit a driver's packets, according to the entries of a history before the driver starts.
use Rattle.std.specs.Prelude.{ℕ, ◌≡◌, ◌≤◌, max, List, length}
use Rattle.pmd_driver.specs.NicDevice.DmaArena.Block.{Block}
use Rattle.pmd_driver.specs.NicDevice.declared.event.Event.{Event}
use Rattle.pmd_driver.specs.NicDevice.declared.event.Event.TheVariants as event
use Rattle.pmd_driver.specs.NicDevice.declared.event.Reply.{Reply}
use Rattle.pmd_driver.specs.NicDevice.declared.event.Reply.TheVariants.{Done}
use Rattle.pmd_driver.specs.DeviceLock.declared.alone.Watched.{Watched}
use Rattle.pmd_driver.specs.DeviceLock.declared.entry.Call.{Call}
use Rattle.pmd_driver.specs.DeviceLock.declared.entry.Entry.{Entry}
use Rattle.pmd.specs.Before.{known_through}
use Rattle.pmd.specs.Starts.{Starts}

-- The length in bytes of the frame that was accepted in an event, given its reply; 0 if the frame was dropped or none
-- arrived.
abbrev pub let_in_by : Event Block → Reply Block → ℕ
let_in_by (event.Arrive frame) Done = length frame
let_in_by event reply = 0

-- The length in bytes of the longest accepted frame, after an entry and after all entries of a history.

abbrev pub longest_after : ℕ → Entry → ℕ
longest_after longest e = max longest (let_in_by e.event e.reply)

abbrev pub longest_let_in : List Entry → ℕ
longest_let_in h = known_through longest_after 0 h

-- No frame longer than `most` bytes was accepted before the driver's first entry, which comes after `from` calls of its
-- pass.
abbrev pub FramesFit : Watched → ℕ → ℕ → List Entry → Type 0
FramesFit w from most h =
    (old : List Call) → length old ≡ from → (x : Starts w.pass old h) → longest_let_in x.before ≤ most
