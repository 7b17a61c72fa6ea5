-- Registers by their addresses: the word that a register holds, the value that a read returns, and the registers after
-- accesses.
use Rattle.std.specs.Prelude.{ℕ, Bool, Option, None, Some, bit_and}
use Rattle.datasheet_laws.specs.NumberPrelude.{Access, Registers, Surroundings, access_at, after_read, has_bit, read_word}
use Rattle.datasheet_laws.specs.NumberPrelude.{row_of, word_at, written}

-- For the access that an address selects, if any: the word of its register, the value that a read returns, and the
-- registers after a read and after a write.
abbrev pub held : Registers → Option Access → ℕ
held r None = 0
held r (Some a) = word_at r.words a.place

abbrev pub given : Surroundings → Registers → Option Access → ℕ
given around r None = 0
given around r (Some a) = bit_and (read_word (row_of a.place.row).kind r around a.place) a.view

abbrev pub left : Registers → Option Access → Registers
left r None = r
left r (Some a) = after_read (row_of a.place.row).kind r a.place

abbrev pub wrote : Registers → Option Access → ℕ → Registers
wrote r None word = r
wrote r (Some a) word = written (row_of a.place.row).kind r a.place a.view word

-- The word of the register at an address, and a bit of it.
abbrev pub word : Registers → (address : ℕ) → ℕ
word r address = held r (access_at address)

abbrev pub holds : Registers → (address bit : ℕ) → Bool
holds r address bit = has_bit bit (word r address)

-- A bit of the word that a read of an address returns.
abbrev pub reads : Surroundings → Registers → (address bit : ℕ) → Bool
reads around r address bit = has_bit bit (given around r (access_at address))

-- The registers after a read of an address, and after a write of a word to it.
abbrev pub read_at : Registers → (address : ℕ) → Registers
read_at r address = left r (access_at address)

abbrev pub write_at : Registers → (address word : ℕ) → Registers
write_at r address word = wrote r (access_at address) word
