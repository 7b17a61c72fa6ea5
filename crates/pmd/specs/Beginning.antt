-- Whether a driver begins well according to the entries before its first entry: when it starts, its port and queue
-- number identify its queue, and the device's frame limit matches the frame length that it was given.
use Rattle.std.specs.Prelude.{ℕ, ◌≡◌, ◌==◌, ◌&&◌, Bool, false, List, length, Option, Some, None}
use Rattle.pmd_driver.specs.DeviceLock.Reported.{first_settings, limit_of, settings_through}
use Rattle.pmd_driver.specs.DeviceLock.declared.alone.Watched.{Watched}
use Rattle.pmd_driver.specs.DeviceLock.declared.entry.Call.{Call}
use Rattle.pmd_driver.specs.DeviceLock.declared.entry.Entry.{Entry}
use Rattle.pmd_driver.specs.DeviceLock.declared.reported.Settings.{Settings}
use Rattle.pmd_driver.specs.PmdAccess.Frames.{packet_limit}
use Rattle.pmd.specs.Queues.{queue_at}
use Rattle.pmd.specs.Starts.{Starts}
use Rattle.pmd.specs.declared.beginning.Given.{Given}

-- With these settings, port and queue number identify the watched queue, and the device's frame limit matches the
-- maximum length of the driver's frames.
pub record Fits (w : Watched) (s : Settings) (x : Given) : Type 0 where
  pub names : queue_at s.mode w.vfs x.port x.queue ≡ Some w.queue
  pub limit : limit_of s.frames ≡ packet_limit x.frame

-- `Fits` holds just before the driver's first entry, for the settings that the entries before it report. The first
-- entry comes after `from` calls made by the driver's pass.
abbrev pub BeginsWell : Watched → ℕ → Given → List Entry → Type 0
BeginsWell w from start h =
    (old : List Call) → length old ≡ from → (x : Starts w.pass old h) →
    Fits w (settings_through w.vfs first_settings x.before) start

-- The test of the settings, as code can compute it.

abbrev pub is_queue : Option ℕ → ℕ → Bool
is_queue None queue = false
is_queue (Some named) queue = named == queue

abbrev pub begins : Watched → Settings → Given → Bool
begins w s x =
    is_queue (queue_at s.mode w.vfs x.port x.queue) w.queue && (limit_of s.frames == packet_limit x.frame)
