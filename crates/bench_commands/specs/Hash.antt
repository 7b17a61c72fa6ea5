-- The output of `nicbench hash`.
use Rattle.std.specs.Prelude.{ℕ, List, [], ◌∷◌, ◌++◌, ◌==◌, Option, Some, None, Result, Ok, Err, codes, length, map, nat_lt, if◌then◌else◌}
use Rattle.std.specs.List.{flat_map}
use Rattle.text_format.specs.HexData.{hex_bytes_of}
use Rattle.text_format.specs.Lines.{NumberedLine, lines_of}
use Rattle.text_format.specs.Words.{words_of}
use Rattle.nic_device.specs.RssHash.Toeplitz.{toeplitz_hash}
use Rattle.bench_commands.specs.Answer.{Answer, refused_at}
use Rattle.text_format.specs.Word.{word_text}

-- The bytes of a line, if it consists of one word that spells whole bytes in hex.
abbrev pub bytes_said : List (List ℕ) → Option (List ℕ)
bytes_said (word ∷ []) = hex_bytes_of word
bytes_said other = None

-- The bytes, if they can be a key of 40 bytes (`if_key`) or an input of at most 36 bytes (`if_input`).
abbrev pub if_key : Option (List ℕ) → Option (List ℕ)
if_key (Some bytes) = if length bytes == 40 then Some bytes else None
if_key None = None

abbrev pub if_input : Option (List ℕ) → Option (List ℕ)
if_input (Some bytes) = if nat_lt 36 (length bytes) then None else Some bytes
if_input None = None

-- An input, followed by the inputs on the lines after it.
abbrev pub input_and : ℕ → Option (List ℕ) → Result (List (List ℕ)) ℕ → Result (List (List ℕ)) ℕ
input_and number None inputs = Err number
input_and number (Some input) (Ok inputs) = Ok (input ∷ inputs)
input_and number (Some input) (Err later) = Err later

-- The input on a line with these words, followed by the inputs on the lines after it. A line without words has no
-- input.
abbrev pub line_and : ℕ → List (List ℕ) → Result (List (List ℕ)) ℕ → Result (List (List ℕ)) ℕ
line_and number [] inputs = inputs
line_and number (word ∷ words) inputs = input_and number (if_input (bytes_said (word ∷ words))) inputs

-- The inputs on the lines after the key, or the number of the first line that has words but isn't an input.
unfoldable pub inputs_of : List NumberedLine → Result (List (List ℕ)) ℕ
inputs_of [] = Ok []
inputs_of (line ∷ others) = line_and line.number (words_of line.text) (inputs_of others)

-- A 32-bit word on its own line.
abbrev pub word_line : ℕ → List ℕ
word_line word = word_text word ++ codes "\n"

-- The line that prints an input's hash.
abbrev pub hash_line : List ℕ → List ℕ → List ℕ
hash_line key input = word_line (toeplitz_hash key input)

-- The answer with a line for each input. If a line isn't an input, the line is refused before anything is written.
abbrev pub hashes : List ℕ → Result (List (List ℕ)) ℕ → Answer
hashes key (Ok inputs) = record { text = flat_map (hash_line key) inputs; status = 0 }
hashes key (Err number) = refused_at (codes "Syntax") number

abbrev pub keyed_answer : ℕ → Option (List ℕ) → List NumberedLine → Answer
keyed_answer number None others = refused_at (codes "Syntax") number
keyed_answer number (Some key) others = hashes key (inputs_of others)

-- The answer to the lines of an input. The first line is the key; if there are no lines, line 1 is reported as missing.
abbrev pub lines_answer : List NumberedLine → Answer
lines_answer [] = refused_at (codes "Syntax") 1
lines_answer (line ∷ others) = keyed_answer line.number (if_key (bytes_said (words_of line.text))) others

-- The answer to an input's text.
abbrev pub hash_answer : List ℕ → Answer
hash_answer text = lines_answer (lines_of text)

-- The answer with a line for each hash.
abbrev pub words_answer : List ℕ → Answer
words_answer words = record { text = flat_map word_line words; status = 0 }

-- These hashes, followed by the hashes of the inputs.
abbrev pub hashed : List ℕ → List ℕ → Result (List (List ℕ)) ℕ → Result (List ℕ) ℕ
hashed key before (Ok inputs) = Ok (before ++ map (toeplitz_hash key) inputs)
hashed key before (Err number) = Err number
