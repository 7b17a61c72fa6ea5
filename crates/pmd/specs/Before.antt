-- What is known about a history just before a driver's first entry, computed in one pass over the entries.
use Rattle.std.specs.Prelude.{ℕ, ◌-◌, ◌==◌, Bool, true, false, not, ◌&&◌, ◌||◌, List, [], ◌∷◌, Option, Some, None, if◌then◌else◌}
use Rattle.pmd_driver.specs.NicDevice.DmaArena.Block.{Block}
use Rattle.pmd_driver.specs.NicDevice.declared.event.Event.{Event}
use Rattle.pmd_driver.specs.DeviceLock.Reported.{first_settings, settings_after}
use Rattle.pmd_driver.specs.DeviceLock.declared.alone.Watched.{Watched}
use Rattle.pmd_driver.specs.DeviceLock.declared.entry.Entry.{Entry}
use Rattle.pmd_driver.specs.PmdAccess.Events.{is_step}
use Rattle.pmd.specs.Quiet.{asks_on}
use Rattle.pmd.specs.declared.before.Reported.{Reported}

-- Whether an entry is the driver's first entry. `left` calls made by the driver's pass must still come before the
-- driver's first entry.
abbrev pub is_first : Watched → ℕ → Entry → Bool
is_first w left e = (e.pass == w.pass) && ((left == 0) && not (is_step e.event))

-- How many calls made by the driver's pass must still come, after this entry, before the driver's first entry.
abbrev pub still_left : Watched → ℕ → Entry → ℕ
still_left w left e = if e.pass == w.pass then left - 1 else left

-- A test of what is known; it is true if nothing is known.
abbrev pub holds_of : {S : Type 0} → (S → Bool) → Option S → Bool
holds_of test None = true
holds_of test (Some s) = test s

module _ {S : Type 0} (next : S → Entry → S) where
  -- What is known after all entries of a history; `next` updates it for each entry.
  abbrev pub known_through : S → List Entry → S
  known_through s [] = s
  known_through s (e ∷ es) = known_through (next s e) es

  -- What is known just before the driver's first entry, if there is one.
  abbrev pub known_before : Watched → S → ℕ → List Entry → Option S
  known_before w s left [] = None
  known_before w s left (e ∷ es) =
      if is_first w left e then Some s else known_before w (next s e) (still_left w left e) es

-- What the entries of a new device's history report at the start.

abbrev pub first_reported : Reported
first_reported = record { settings = first_settings; asked = false }

-- The report after an event, and after an entry.
abbrev pub reported_after : Watched → Reported → Event Block → Reported
reported_after w t e = record {
  settings = settings_after w.vfs t.settings e;
  asked = t.asked || asks_on w t.settings.mode e;
}

abbrev pub reported_after_entry : Watched → Reported → Entry → Reported
reported_after_entry w t e = reported_after w t e.event

-- The report after all entries of a history.
abbrev pub reported_through : Watched → Reported → List Entry → Reported
reported_through w = known_through (reported_after_entry w)

-- The report just before the driver's first entry.
abbrev pub reported_before : Watched → Reported → ℕ → List Entry → Option Reported
reported_before w = known_before (reported_after_entry w) w
