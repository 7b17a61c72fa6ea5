-- What a function's requests and acknowledgements change in the mailbox interrupt causes, PFMBICR.
use Rattle.std.specs.Prelude.{ℕ, ◌≡◌, ◌<◌, ◌+◌, ◌*◌, ◌/◌, ◌%◌, Bool, ◌==◌, ◌&&◌, ◌||◌}
use Rattle.nic_device.specs.declared.event.Event.TheVariants as event
use Rattle.datasheet_laws.specs.Prelude.{IsSound, Port, Pvfmailbox, Register, State, after, has_bit, named, place}
use Rattle.datasheet_laws.specs.Shown.{reads_one}

-- PFMBICR[k], in which functions 16k to 16k+15 have one request bit each, in bits 0 to 15, and one acknowledgement bit
-- each, in bits 16 to 31.
abbrev pub requests_address : ℕ → ℕ
requests_address k = 0x00710 + 4 * k

-- Whether a word that function v writes sets a bit of PFMBICR[k]: bit 0 of the word sets the function's request bit,
-- and bit 1 of the word sets the function's acknowledgement bit.
abbrev pub asks_by : (v word k bit : ℕ) → Bool
asks_by v word k bit =
    k == v / 16 && ((has_bit 0 word && bit == v % 16) || (has_bit 1 word && bit == 16 + v % 16))

-- After a write to PVFMAILBOX[v], the bit of its request reads as 1 if bit 0 is written as 1, the bit of its
-- acknowledgement reads as 1 if bit 1 is, and all other bits read as before.
abbrev pub RequestsAreApart : Type 0
RequestsAreApart =
    (s : State) → IsSound s → (v : ℕ) → v < 64 → (port : Port) (number view word : ℕ) →
    named s port number ≡ Register (place Pvfmailbox v) view → (k bit : ℕ) → k < 4 → bit < 32 →
    reads_one (after s (event.Write port number word)) (requests_address k) bit
    ≡ (reads_one s (requests_address k) bit || asks_by v word k bit)
