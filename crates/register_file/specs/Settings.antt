-- Settings in single bits and fields of registers.
use Rattle.std.specs.Prelude.{ℕ, ◌+◌, ◌-◌, ◌*◌, ◌/◌, ◌^◌, Bool, Option, Some, None, if◌then◌else◌}
use Rattle.reg_table.specs.declared.rows.RowId.TheVariants.{Ctrl, Srrctl, Rxctrl, Hlreg0, Maxfrs, Dmatxctl, Tdwbal, Tdwbah}
use Rattle.register_file.specs.Bits.{has_bit}
use Rattle.register_file.specs.Registers.{Registers, word_of}

-- The device takes no step while CTRL bit 2 is 1.
abbrev pub is_stopped : Registers → Bool
is_stopped r = has_bit 2 (word_of r Ctrl 0)

-- Frames are received if RXCTRL bit 0, RXEN, is 1.
abbrev pub can_receive : Registers → Bool
can_receive r = has_bit 0 (word_of r Rxctrl 0)

-- Frames are transmitted if DMATXCTL bit 0, TE, is 1.
abbrev pub can_transmit : Registers → Bool
can_transmit r = has_bit 0 (word_of r Dmatxctl 0)

-- The longest frame in bytes: 1,514, or, if HLREG0 bit 2, JUMBOEN, is set, MAXFRS bits 31 to 16 minus 4, but at least
-- 0.
abbrev pub frame_limit : Registers → ℕ
frame_limit r = if has_bit 2 (word_of r Hlreg0 0) then word_of r Maxfrs 0 / 2 ^ 16 - 4 else 1514

-- Short frames are padded if HLREG0 bit 10, TXPADEN, is 1.
abbrev pub pads : Registers → Bool
pads r = has_bit 10 (word_of r Hlreg0 0)

-- A receive queue without a free slot drops frames if SRRCTL bit 28, DROP_EN, is 1.
abbrev pub drops : Registers → ℕ → Bool
drops r queue = has_bit 28 (word_of r Srrctl queue)

-- The address that a transmit queue writes its head to: TDWBAH and TDWBAL bits 31 to 2, if TDWBAL bit 0 is 1.
abbrev pub writeback_of : Registers → ℕ → Option ℕ
writeback_of r queue =
    if has_bit 0 (word_of r Tdwbal queue)
    then Some (word_of r Tdwbah queue * 2 ^ 32 + 4 * (word_of r Tdwbal queue / 4))
    else None
