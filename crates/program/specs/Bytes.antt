-- How fields and numbers are encoded as bytes. Numbers are little-endian.
use Rattle.std.specs.Prelude.{ℕ, ◌+◌, List, [], ◌∷◌, ◌++◌, slice_index}
use Rattle.std.specs.Int.{w16, w32, to_le_bytes, from_le_bytes}
use Rattle.program.specs.declared.fields.Fields.{Fields}
use Rattle.program.specs.Encoding.{fields}

-- The 16-bit number at an index.
abbrev pub number16_at : List ℕ → ℕ → ℕ
number16_at bytes at = from_le_bytes w16 (slice_index bytes at ∷ slice_index bytes (at + 1) ∷ [])

-- The 32-bit number at an index.
abbrev pub number32_at : List ℕ → ℕ → ℕ
number32_at bytes at =
    let byte = slice_index bytes in
    from_le_bytes w32 (byte at ∷ byte (at + 1) ∷ byte (at + 2) ∷ byte (at + 3) ∷ [])

-- The twelve bytes of an instruction's fields.
abbrev pub bytes_of_fields : Fields → List ℕ
bytes_of_fields f = (f.op ∷ f.sub ∷ []) ++ to_le_bytes w16 f.x ++ to_le_bytes w32 f.a ++ to_le_bytes w32 f.b

-- The fields in the first twelve bytes.
abbrev pub fields_in : List ℕ → Fields
fields_in bytes =
    fields (slice_index bytes 0) (slice_index bytes 1) (number16_at bytes 2) (number32_at bytes 4) (number32_at bytes 8)
