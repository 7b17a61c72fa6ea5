-- Bytes as text.
use Rattle.std.specs.Prelude.{ℕ, List}
use Rattle.hex.specs.Hex.{encode_lower}

-- The bytes as lower-case hex, two digits per byte, the high four bits first.
abbrev pub bytes_text : List ℕ → List ℕ
bytes_text bytes = encode_lower bytes
