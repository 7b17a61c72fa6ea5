-- Where a driver starts in a history.
use Rattle.std.specs.Prelude.{ℕ, ◌≡◌, IsFalse, List, ◌∷◌, ◌++◌}
use Rattle.pmd_driver.specs.DeviceLock.History.{calls_of}
use Rattle.pmd_driver.specs.DeviceLock.declared.entry.Call.{Call}
use Rattle.pmd_driver.specs.DeviceLock.declared.entry.Entry.{Entry}
use Rattle.pmd_driver.specs.PmdAccess.Events.{is_step}
use Rattle.pmd_driver.specs.PmdAccess.Made.{AreSteps}

-- The driver's first entry in a history. This entry comes after the calls that the driver's pass made before the driver
-- started, and after device steps.
pub record Starts (tag : ℕ) (old : List Call) (h : List Entry) : Type 0 where
  pub before : List Entry
  pub first : Entry
  pub following : List Entry
  pub all : before ++ first ∷ following ≡ h
  pub own : first.pass ≡ tag
  pub event : IsFalse (is_step first.event)
  pub steps : List Call
  pub stepped : AreSteps steps
  pub calls : calls_of tag before ≡ old ++ steps
