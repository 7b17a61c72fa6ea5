-- The mailbox memory, PFMBMEM: what one side writes, the other reads.
use Rattle.std.specs.Prelude.{ℕ, ◌≡◌, ◌≢◌, ◌<◌, ◌+◌, ◌*◌, ◌||◌, Some, IsFalse}
use Rattle.nic_device.specs.RegTable.declared.rows.RowId.TheVariants.{Ctrl, Pfmbmem}
use Rattle.nic_device.specs.declared.event.Event.TheVariants as event
use Rattle.nic_device.specs.declared.event.Port.TheVariants.{Pf, Vf}
use Rattle.datasheet_laws.specs.Prelude.{Block, Event, IsSound, Place, Port, Register, State, after, has_bit, mode_in}
use Rattle.datasheet_laws.specs.Prelude.{named, place, queues_of, reply_to}
use Rattle.datasheet_laws.specs.Holding.{IsSparing}
use Rattle.datasheet_laws.specs.Shown.{word_in, read_at}

-- Word x, below 16, of virtual function v: its place, the physical function's address for it, and the function's own
-- offset.
abbrev pub message : (v x : ℕ) → Place
message v x = place Pfmbmem (16 * v + x)

abbrev pub message_address : (v x : ℕ) → ℕ
message_address v x = 0x13000 + 0x40 * v + 4 * x

abbrev pub message_offset : (x : ℕ) → ℕ
message_offset x = 0x200 + 4 * x

-- The address and the offset both name the word with all its bits; the offset does if the device has the function and a
-- pool for it.
pub record HasNumbers (s : State) (v x : ℕ) : Type 0 where
  pub physical : named s Pf (message_address v x) ≡ Register (message v x) 0xFFFFFFFF
  pub function :
      (first count : ℕ) → v < s.vfs → queues_of (mode_in s.registers) v ≡ Some (first, count)
      → named s (Vf v) (message_offset x) ≡ Register (message v x) 0xFFFFFFFF

abbrev pub MessagesHaveNumbers : Type 0
MessagesHaveNumbers = (s : State) (v x : ℕ) → v < 64 → x < 16 → HasNumbers s v x

-- A word written at one of its numbers is read at each of them.
abbrev pub MessagesAreShared : Type 0
MessagesAreShared =
    (s : State) → IsSound s → (v x : ℕ) → v < 64 → x < 16 → (port other : Port) (number again word : ℕ) →
    named s port number ≡ Register (message v x) 0xFFFFFFFF → named s other again ≡ Register (message v x) 0xFFFFFFFF →
    (bit : ℕ) → bit < 32 →
    has_bit bit (word_in (reply_to (after s (event.Write port number word)) (event.Read other again)))
    ≡ has_bit bit word

-- After every event except a write to the word and a reset of the device, the word reads the same at the physical
-- function's address.
pub record SparesMessage (v x : ℕ) (p : Place) (word : ℕ) : Type 0 where
  pub own : p ≢ message v x
  pub control : p ≡ place Ctrl 0 → IsFalse (has_bit 3 word || has_bit 26 word)

abbrev pub MessagesLast : Type 0
MessagesLast =
    (s : State) → IsSound s → (v x : ℕ) → v < 64 → x < 16 → (e : Event Block) →
    IsSparing (SparesMessage v x) s e
    → read_at (after s e) (message_address v x) ≡ read_at s (message_address v x)
