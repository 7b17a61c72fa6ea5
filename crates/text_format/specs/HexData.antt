-- Decoding of hex digits to bytes.
use Rattle.std.specs.Prelude.{ℕ, ◌+◌, ◌*◌, List, [], ◌∷◌, Option, Some, None}
use Rattle.hex.specs.Hex.{hex_digit_value}

-- The byte that two digits represent, the high digit first; `None` if either digit is missing.
abbrev pub byte_of : Option ℕ → Option ℕ → Option ℕ
byte_of (Some high) (Some low) = Some (high * 16 + low)
byte_of (Some high) None = None
byte_of None low = None

-- A byte, followed by these bytes; `None` if the byte or the bytes are missing.
abbrev pub onto : Option ℕ → Option (List ℕ) → Option (List ℕ)
onto (Some byte) (Some bytes) = Some (byte ∷ bytes)
onto (Some byte) None = None
onto None bytes = None

-- The bytes that a word spells, two hex digits per byte; `None` if a character isn't a hex digit or the number of
-- digits is odd.
unfoldable pub hex_bytes_of : List ℕ → Option (List ℕ)
hex_bytes_of [] = Some []
hex_bytes_of (digit ∷ []) = None
hex_bytes_of (high ∷ low ∷ more) = onto (byte_of (hex_digit_value high) (hex_digit_value low)) (hex_bytes_of more)
