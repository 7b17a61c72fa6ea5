-- The words of an image, and the bytes of its file.
use Rattle.std.specs.Prelude.{ℕ, ◌+◌, ◌*◌, List, [], ◌∷◌, get_or}
use Rattle.std.specs.List.{flat_map}
use Rattle.byteorder.specs.Endian.{little_bytes}

-- The word at an index; 0xFFFF past the end.
abbrev pub word_at : List ℕ → ℕ → ℕ
word_at words index = get_or words index 0xFFFF

-- The bytes of an image's file: each word in order, low byte first.
abbrev pub bytes_of : List ℕ → List ℕ
bytes_of words = flat_map (little_bytes 2) words

-- The words of a file with an even number of bytes.
abbrev pub words_of : List ℕ → List ℕ
words_of [] = []
words_of (low ∷ []) = []
words_of (low ∷ high ∷ bytes) = (low + 256 * high) ∷ words_of bytes
