-- The EEPROM image: the register writes that a reset performs from it, and the EEPROM step.
use Rattle.std.specs.Prelude.{ℕ, Bool, true, false, List, fold, Option, Some, None, if◌then◌else◌}
use Rattle.eeprom_image.specs.Bytes.{word_at}
use Rattle.eeprom_image.specs.Triples.{triples_of}
use Rattle.register_file.specs.RegTable.Place.{place_among, view_among}
use Rattle.register_file.specs.RegTable.Runs.{runs}
use Rattle.register_file.specs.RegTable.declared.place.Place.{Place}
use Rattle.register_file.specs.RegTable.declared.rows.RowId.{RowId}
use Rattle.register_file.specs.RegTable.declared.rows.RowId.TheVariants.{Ctrl, Eerd}
use Rattle.register_file.specs.Eeprom.{eeprom_asked, eeprom_answered}
use Rattle.register_file.specs.Settings.{is_stopped}
use Rattle.nic_device.specs.Outcome.{Outcome, gives}
use Rattle.nic_device.specs.PoolReset.{written_below_reset}
use Rattle.nic_device.specs.State.{State, cleared}
use Rattle.nic_device.specs.declared.event.Reply.TheVariants.{Done, Idle}

-- Whether the image's writes to a register are skipped: to CTRL, because they could reset the device, and to EERD.
abbrev pub is_stepped_over : RowId → Bool
is_stepped_over Ctrl = true
is_stepped_over Eerd = true
is_stepped_over other = false

-- The state after a triple writes a word to this place. The state is unchanged if there is no place or the triple is
-- skipped.
abbrev pub triple_written : State → Option Place → ℕ → ℕ → State
triple_written s None view word = s
triple_written s (Some p) view word = if is_stepped_over p.row then s else written_below_reset s p view word

abbrev pub with_triple : State → ℕ × ℕ → State
with_triple s triple = triple_written s (place_among runs triple.0) (view_among runs triple.0) triple.1

-- The state after the triples, in order.
abbrev pub with_triples : State → List (ℕ × ℕ) → State
with_triples s triples = fold with_triple s triples

-- A device reset: it clears the state, then performs the image's triples.
abbrev pub reset : State → State
reset s = with_triples (cleared s) (triples_of s.image)

-- The reply to an EERD request: EERD receives the image's word at the index, or 0xFFFF outside the image. Without a
-- request, the step is idle.
abbrev pub word_answered : State → Option ℕ → Outcome
word_answered s None = gives Idle s
word_answered s (Some index) =
    gives Done (record s { registers = eeprom_answered s.registers (word_at s.image index) })

-- One EEPROM step.
abbrev pub eeprom_stepped : State → Outcome
eeprom_stepped s = if is_stopped s.registers then gives Idle s else word_answered s (eeprom_asked s.registers)
