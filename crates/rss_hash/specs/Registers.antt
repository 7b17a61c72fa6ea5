-- Tables of bytes in registers. Each register has four bytes.
use Rattle.std.specs.Prelude.{◌≡◌, ℕ, ◌/◌, ◌%◌, List, length, slice_index}
use Rattle.std.specs.Int.{to_le_bytes, w32}
use Rattle.std.specs.List.{flat_map}

-- The bytes of the registers, in the registers' order. In each register, the byte with the lowest bits comes first.
unfoldable pub bytes_of_registers : List ℕ → List ℕ
bytes_of_registers words = flat_map (to_le_bytes w32) words

-- The entry that a hash selects. The hash's low seven bits select a byte of the table; the entry is that byte's low
-- four bits.
unfoldable pub entry_of : List ℕ → ℕ → ℕ
entry_of table hash = slice_index (bytes_of_registers table) (hash % 128) % 16

-- The entry equals the entry that the hash selects in every table of 32 words that has this word at the entry's
-- position.
abbrev pub IsEntryIn : (word hash entry : ℕ) → Type 0
IsEntryIn word hash entry =
    (table : List ℕ) → length table ≡ 32 → slice_index table (hash % 128 / 4) ≡ word → entry ≡ entry_of table hash
