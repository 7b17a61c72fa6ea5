-- Bytes without the trailing zeros.
use Rattle.std.specs.Prelude.{ℕ, zero, suc, List, [], ◌∷◌}

-- How many bytes are kept of a sequence that begins with this byte, given how many of the bytes after it are kept.
abbrev pub kept_with : ℕ → ℕ → ℕ
kept_with (suc kept) byte = suc (suc kept)
kept_with zero zero = 0
kept_with zero (suc byte) = 1

-- The number of bytes without the trailing zeros.
unfoldable pub kept_len : List ℕ → ℕ
kept_len [] = 0
kept_len (byte ∷ bytes) = kept_with (kept_len bytes) byte
