-- What single bits and fields set, by their addresses, and how counters count.
use Rattle.std.specs.Prelude.{ℕ, ◌≡◌, ◌<◌, ◌+◌, ◌-◌, ◌*◌, ◌/◌, ◌==◌, true, false, Some, None, if◌then◌else◌}
use Rattle.reg_table.specs.Counter.{bumped}
use Rattle.register_file.specs.Groups.{clears_others, masks_by_message}
use Rattle.register_file.specs.Settings.{is_stopped, can_receive, can_transmit, frame_limit, pads, drops, writeback_of}
use Rattle.datasheet_laws.specs.NumberPrelude.{Registers, Srrctl}
use Rattle.datasheet_laws.specs.ByAddress.{word, holds}
use Rattle.datasheet_laws.specs.Table.{line_of}

-- CTRL bit 2 stops the device. RXCTRL bit 0 enables reception, DMATXCTL bit 0 transmission, and HLREG0 bit 10 padding.
-- If HLREG0 bit 2 is 1, the frame limit is MAXFRS bits 31 to 16 minus 4; otherwise, it is 1,514. If GPIE bit 5 is 1,
-- reads of EICR clear only bits 29 to 16. If bit 30 is 1, only messages use the auto-mask.
pub record DeviceIsSet (r : Registers) : Type 0 where
  pub stopped : is_stopped r ≡ holds r 0x00000 2
  pub receives : can_receive r ≡ holds r 0x03000 0
  pub transmits : can_transmit r ≡ holds r 0x04A80 0
  pub pads_frames : pads r ≡ holds r 0x04240 10
  pub jumbo : holds r 0x04240 2 ≡ true → frame_limit r ≡ word r 0x04268 / 65536 - 4
  pub plain : holds r 0x04240 2 ≡ false → frame_limit r ≡ 1514
  pub others : clears_others r ≡ holds r 0x00898 5
  pub messages : masks_by_message r ≡ holds r 0x00898 30

-- SRRCTL[q] bit 28 drops frames without a slot. If TDWBAL[q] bit 0 is 1, the head is written to the address in
-- TDWBAH[q] and TDWBAL[q] bits 31 to 2.
pub record QueueIsSet (r : Registers) (q : ℕ) : Type 0 where
  pub drops_frames : drops r q ≡ holds r ((line_of Srrctl).address q) 28
  pub reports : holds r (0x06038 + 0x40 * q) 0 ≡ true →
      writeback_of r q ≡ Some (word r (0x0603C + 0x40 * q) * 4294967296 + 4 * (word r (0x06038 + 0x40 * q) / 4))
  pub no_reports : holds r (0x06038 + 0x40 * q) 0 ≡ false → writeback_of r q ≡ None

abbrev pub DevicesAreSet : Type 0
DevicesAreSet = (r : Registers) → DeviceIsSet r

abbrev pub QueuesAreSet : Type 0
QueuesAreSet = (r : Registers) (q : ℕ) → q < 128 → QueueIsSet r q

-- A clear-on-read counter is incremented by one, and saturates at 0xFFFFFFFF.
abbrev pub CountersStay : Type 0
CountersStay = (w : ℕ) → bumped w ≡ (if w == 0xFFFFFFFF then w else w + 1)
