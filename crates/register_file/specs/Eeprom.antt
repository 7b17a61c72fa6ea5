-- EERD: EEPROM read requests and their results.
use Rattle.std.specs.Prelude.{ℕ, ◌+◌, ◌*◌, ◌/◌, ◌%◌, ◌^◌, Option, Some, None, if◌then◌else◌}
use Rattle.reg_table.specs.declared.rows.RowId.TheVariants.{Eerd}
use Rattle.register_file.specs.Bits.{has_bit}
use Rattle.register_file.specs.Registers.{Registers, word_of, with_word}

-- The index in EERD: bits 15 to 2.
abbrev pub eeprom_index : Registers → ℕ
eeprom_index r = word_of r Eerd 0 / 4 % 2 ^ 14

-- The index of the requested word, if EERD bit 0, START, is 1.
abbrev pub eeprom_asked : Registers → Option ℕ
eeprom_asked r = if has_bit 0 (word_of r Eerd 0) then Some (eeprom_index r) else None

-- The registers after an EEPROM read completes: EERD holds the index, bit 1, DONE, and the word in bits 31 to 16.
abbrev pub eeprom_answered : Registers → ℕ → Registers
eeprom_answered r word = with_word r Eerd 0 (eeprom_index r * 4 + 2 + word * 2 ^ 16)
