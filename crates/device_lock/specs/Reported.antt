-- How long frames may be, according to a history's entries.
use Rattle.std.specs.Prelude.{ℕ, ◌-◌, ◌/◌, ◌%◌, ◌^◌, false, List, [], ◌∷◌, Option, Some, None, if◌then◌else◌}
use Rattle.nic_device.specs.DmaArena.Block.{Block}
use Rattle.nic_device.specs.RegTable.Rows.{row_of}
use Rattle.nic_device.specs.RegTable.declared.place.Place.{Place}
use Rattle.nic_device.specs.RegTable.declared.rows.RowId.{RowId}
use Rattle.nic_device.specs.RegTable.declared.rows.RowId.TheVariants.{Ctrl, Hlreg0, Maxfrs}
use Rattle.nic_device.specs.VfMap.declared.mode.Mode.TheVariants.{Off}
use Rattle.nic_device.specs.RegisterFile.Access.{asks_reset}
use Rattle.nic_device.specs.RegisterFile.Bits.{has_bit}
use Rattle.nic_device.specs.declared.event.Event.{Event}
use Rattle.nic_device.specs.declared.event.Event.TheVariants as event
use Rattle.device_lock.specs.Alone.{mode_after, place_at}
use Rattle.device_lock.specs.declared.entry.Entry.{Entry}
use Rattle.device_lock.specs.declared.reported.Frames.{Frames}
use Rattle.device_lock.specs.declared.reported.Settings.{Settings}

-- The frame limit for these settings.
abbrev pub limit_of : Frames → ℕ
limit_of f = if f.jumbo then f.longest - 4 else 1514

-- The frame length settings after a reset.
abbrev pub usual_frames : Frames
usual_frames = record { jumbo = false; longest = 1518 }

-- The settings of a new device.
abbrev pub first_settings : Settings
first_settings = record { mode = Off; frames = usual_frames }

-- The frame length settings after a write. HLREG0 bit 2 determines whether MAXFRS applies, MAXFRS bits 31 to 16 contain
-- the maximum frame length, and a device reset undoes both.
abbrev pub frames_set : Frames → RowId → ℕ → Frames
frames_set f Hlreg0 word = record f { jumbo = has_bit 2 word }
frames_set f Maxfrs word = record f { longest = word / 2 ^ 16 % 2 ^ 16 }
frames_set f Ctrl word = if asks_reset (row_of Ctrl).kind word then usual_frames else f
frames_set f other word = f

abbrev pub frames_written : Frames → Option Place → ℕ → Frames
frames_written f None word = f
frames_written f (Some p) word = frames_set f p.row word

-- The settings after an event.
abbrev pub settings_after : ℕ → Settings → Event Block → Settings
settings_after vfs s (event.Write port number word) = record {
  mode = mode_after vfs s.mode (event.Write port number word);
  frames = frames_written s.frames (place_at s.mode vfs port number) word;
}
settings_after vfs s other = s

-- The settings after the events of a history.
abbrev pub settings_through : ℕ → Settings → List Entry → Settings
settings_through vfs s [] = s
settings_through vfs s (e ∷ es) = settings_through vfs (settings_after vfs s e.event) es
