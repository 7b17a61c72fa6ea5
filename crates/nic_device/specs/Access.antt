-- Register accesses. The kind of a register's row determines their effect.
use Rattle.std.specs.Prelude.{ℕ, length, bit_and, if◌then◌else◌}
use Rattle.eeprom_image.specs.Image.{doublings}
use Rattle.register_file.specs.RegTable.Rows.{row_of}
use Rattle.register_file.specs.RegTable.declared.place.Place.{Place}
use Rattle.register_file.specs.Access.{read_word, after_read, asks_reset}
use Rattle.register_file.specs.declared.surroundings.Surroundings.{Surroundings}
use Rattle.nic_device.specs.Eeprom.{reset}
use Rattle.nic_device.specs.Named.{named}
use Rattle.nic_device.specs.PoolReset.{written_below_reset}
use Rattle.nic_device.specs.State.{State}
use Rattle.nic_device.specs.Outcome.{Outcome, gives}
use Rattle.nic_device.specs.declared.event.Port.{Port}
use Rattle.nic_device.specs.declared.event.Reply.TheVariants.{Word, Stray, Done}
use Rattle.nic_device.specs.declared.named.Named.{Named}
use Rattle.nic_device.specs.declared.named.Named.TheVariants.{Nothing, Register}

-- The state outside the registers that registers report: the link, and the size of the EEPROM image.
abbrev pub around : State → Surroundings
around s = record { link = s.link; eeprom = doublings (length s.image) }

-- The value that a read of a place returns before the address masks it.
abbrev pub word_read : State → Place → ℕ
word_read s p = read_word (row_of p.row).kind s.registers (around s) p

-- The state after a read of a place.
abbrev pub state_read : State → Place → State
state_read s p = record s { registers = after_read (row_of p.row).kind s.registers p }

-- The result of a read, given what the register's number refers to.
abbrev pub named_read : State → Named → Outcome
named_read s (Nothing seen) = gives (Stray seen) s
named_read s (Register p view) = gives (Word (bit_and (word_read s p) view)) (state_read s p)

-- The state after a write to a place. A write that requests a device reset has no other effect.
abbrev pub state_written : State → Place → ℕ → ℕ → State
state_written s p view word =
    if asks_reset (row_of p.row).kind word then reset s
    else written_below_reset s p view word

-- The result of a write, given what the register's number refers to.
abbrev pub named_written : State → Named → ℕ → Outcome
named_written s (Nothing seen) word = gives (Stray 0) s
named_written s (Register p view) word = gives Done (state_written s p view word)

-- A read of a register by its number at a port.
abbrev pub register_read : State → Port → ℕ → Outcome
register_read s port number = named_read s (named s port number)

-- A write to a register by its number at a port.
abbrev pub register_written : State → Port → ℕ → ℕ → Outcome
register_written s port number word = named_written s (named s port number) word
