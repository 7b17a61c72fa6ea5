-- Words and addresses as text.
use Rattle.std.specs.Prelude.{ℕ, ◌-◌, List, ◌++◌, codes, false, length, replicate}
use Rattle.std.specs.Fmt.{digits}

-- `0x`, then lower-case hex digits, padded with zeros to at least this many digits.
abbrev pub hex_text : ℕ → ℕ → List ℕ
hex_text places n = codes "0x" ++ (replicate (places - length (digits 16 false n)) 48 ++ digits 16 false n)

-- A register's word as `0x` and eight hex digits.
abbrev pub word_text : ℕ → List ℕ
word_text word = hex_text 8 word

-- A bus or register address as `0x` and at least five hex digits.
abbrev pub address_text : ℕ → List ℕ
address_text address = hex_text 5 address
