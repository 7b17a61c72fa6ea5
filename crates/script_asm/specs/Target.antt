-- The address that a word of a script names.
use Rattle.std.specs.Prelude.{ℕ, Bool, ◌-◌, ◌&&◌, ◌==◌, List, length, take, Option, Some, None, unwrap_or, Result, Ok}
use Rattle.std.specs.Prelude.{Err, slice_index, nat_le, nat_lt, if◌then◌else◌}
use Rattle.reg_table.specs.Named.{row_with_name}
use Rattle.text_format.specs.Number.{number_of}
use Rattle.script_asm.specs.Prelude.{RowId, address_among, after_first, before_first, is_name, ok_or, position_or_len}
use Rattle.script_asm.specs.Prelude.{row_of, runs}
use Rattle.script_asm.specs.declared.faults.LineFault.{LineFault}
use Rattle.script_asm.specs.declared.faults.LineFault.TheVariants.{Syntax, UnknownName, Range, TooLong}
use Rattle.script_asm.specs.Fault.{◌then◌, both, number_fault}

-- The number that a word spells, below 2^32.
abbrev pub number_in : List ℕ → Result ℕ LineFault
number_in word = elim (number_of word) [ Ok number ↦ Ok number | Err fault ↦ Err (number_fault fault) ]

-- The number that a word spells, below a limit.
abbrev pub number_below : ℕ → List ℕ → Result ℕ LineFault
number_below limit word = number_in word then λ number. if nat_lt number limit then Ok number else Err Range

-- The word as a name, which is at most 32 bytes long.
abbrev pub name_in : List ℕ → Result (List ℕ) LineFault
name_in word = if is_name word then (if nat_le (length word) 32 then Ok word else Err TooLong) else Err Syntax

-- The row with this name.
abbrev pub row_in : List ℕ → Result RowId LineFault
row_in name = ok_or (row_with_name name) UnknownName

-- The first address of the register with this index in a row. The index must be below the number of registers in the
-- row.
abbrev pub register_address : RowId → ℕ → Result ℕ LineFault
register_address row index =
    if nat_lt index (row_of row).count
    then Ok (unwrap_or (address_among runs (record { row = row; index = index })) 0) else Err Range

-- The first address of the register with this row and index, either of which may be faulty.
abbrev pub address_in : Result RowId LineFault → Result ℕ LineFault → Result ℕ LineFault
address_in row index = both row index then λ register. register_address register.0 register.1

-- Whether a word contains a byte.
abbrev pub has_byte : ℕ → List ℕ → Bool
has_byte byte word = nat_lt (position_or_len (λ b. b == byte) word) (length word)

-- The part of a word before its last byte, if that byte is this one.
abbrev pub before_last_byte : ℕ → List ℕ → Option (List ℕ)
before_last_byte byte word =
    if slice_index word (length word - 1) == byte && nat_lt 0 (length word)
    then Some (take (length word - 1) word) else None

-- The address that a row's name and a bracketed index name. `None` means that the closing bracket is missing.
abbrev pub indexed : List ℕ → Option (List ℕ) → Result ℕ LineFault
indexed name None = Err Syntax
indexed name (Some index) = if is_name name then address_in (row_in name) (number_in index) else Err Syntax

-- The address that a word names: `ROW[INDEX]`, `ROW` for the register with index 0, or a number.
unfoldable pub target_of : List ℕ → Result ℕ LineFault
target_of word =
    if has_byte 91 word then indexed (before_first (λ b. b == 91) word)
    (before_last_byte 93 (after_first (λ b. b == 91) word))
    else if is_name word then address_in (row_in word) (Ok 0)
    else number_in word
