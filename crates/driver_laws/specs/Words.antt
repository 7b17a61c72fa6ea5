-- The registers of a side that is off: a value that is written to one of them takes effect.
use Rattle.std.specs.Prelude.{◌%◌, ◌*◌, ◌+◌, ◌/◌, ◌<◌, ◌^◌, ◌≡◌, IsFalse, None, ℕ}
use Rattle.pmd_driver.specs.NicDevice.Named.{named}
use Rattle.ring_laws.specs.{DeviceLaws.Leaving.LeavesMemory, Sides.LeavesSide}
use Rattle.driver_laws.specs.StartPrelude.{Dir, IsSound, Port, Rdbah, Rdbal, Rdh, Rdlen, Rdt, Register, Ring, RowId, Rx}
use Rattle.driver_laws.specs.StartPrelude.{Rxdctl, Side, Srrctl, State, Tdbah, Tdbal, Tdh, Tdlen, Tdt, Tdwbal, Tx}
use Rattle.driver_laws.specs.StartPrelude.{Txdctl}
use Rattle.driver_laws.specs.StartPrelude.{after, frame_limit, has_bit, mode_in, place, side_of}
use Rattle.pmd_driver.specs.NicDevice.declared.event.Event.TheVariants as event

-- A ring after the low or the high half of its base is replaced.

abbrev pub with_low : Ring → ℕ → Ring
with_low ring word = record ring { base = ring.base / 2 ^ 32 * 2 ^ 32 + word }

abbrev pub with_high : Ring → ℕ → Ring
with_high ring word = record ring { base = word * 2 ^ 32 + ring.base % 2 ^ 32 }

-- A side after a value is written to one of the side's registers. A write to any other register leaves the side
-- unchanged.
abbrev pub side_with : Dir → RowId → ℕ → Side → Side
side_with Rx Rdbal word x = record x { ring = with_low x.ring word }
side_with Rx Rdbah word x = record x { ring = with_high x.ring word }
side_with Rx Rdlen word x = record x { ring = record x.ring { length = word } }
side_with Rx Rdh word x = record x { ring = record x.ring { head = word } }
side_with Rx Rdt word x = record x { ring = record x.ring { tail = word } }
side_with Rx Srrctl word x = record x { control = word }
side_with Rx Rxdctl word x = record x { wanted = has_bit 25 word }
side_with Tx Tdbal word x = record x { ring = with_low x.ring word }
side_with Tx Tdbah word x = record x { ring = with_high x.ring word }
side_with Tx Tdlen word x = record x { ring = record x.ring { length = word } }
side_with Tx Tdh word x = record x { ring = record x.ring { head = word } }
side_with Tx Tdt word x = record x { ring = record x.ring { tail = word } }
side_with Tx Tdwbal word x = record x { writeback = None }
side_with Tx Txdctl word x = record x { wanted = has_bit 25 word }
side_with dir other word x = x

-- A 32-bit value, every bit of which takes effect in this register of a side. A base and a length are multiples of 128,
-- a length has 20 bits, head and tail have 16. Bit 0 of TDWBAL is 0, so no head is written back.
abbrev pub Fits : Dir → RowId → ℕ → Type 0
Fits Rx Rdbal word = (word % 128 ≡ 0) × (word < 2 ^ 32)
Fits Rx Rdbah word = word < 2 ^ 32
Fits Rx Rdlen word = (word % 128 ≡ 0) × (word < 2 ^ 20)
Fits Rx Rdh word = word < 2 ^ 16
Fits Rx Rdt word = word < 2 ^ 16
Fits Rx Srrctl word = word < 2 ^ 32
Fits Rx Rxdctl word = word < 2 ^ 32
Fits Tx Tdbal word = (word % 128 ≡ 0) × (word < 2 ^ 32)
Fits Tx Tdbah word = word < 2 ^ 32
Fits Tx Tdlen word = (word % 128 ≡ 0) × (word < 2 ^ 20)
Fits Tx Tdh word = word < 2 ^ 16
Fits Tx Tdt word = word < 2 ^ 16
Fits Tx Tdwbal word = word % 2 ≡ 0
Fits Tx Txdctl word = word < 2 ^ 32
Fits dir other word = ⊥

-- The number identifies the queue's register at the port, and the port can access all bits of the register.
abbrev pub NamesRow : State → Port → ℕ → RowId → ℕ → Type 0
NamesRow s port number row queue = named s port number ≡ Register (place row queue) 0xFFFFFFFF

-- What a driver relies on in addition to its sides: memory, the frame limit, and how the queues are separated among
-- virtual functions.
pub record KeepsGround (s t : State) : Type 0 where
  pub memory : LeavesMemory s t
  pub limit : frame_limit t.registers ≡ frame_limit s.registers
  pub mode : mode_in t.registers ≡ mode_in s.registers
  pub vfs : t.vfs ≡ s.vfs

-- The other side of a queue.
abbrev pub across : Dir → Dir
across Rx = Tx
across Tx = Rx

-- The value takes effect on the side. The queue's other side, memory, the frame limit and the separation of the queues
-- stay unchanged.
pub record TakesWord (dir : Dir) (queue : ℕ) (row : RowId) (word : ℕ) (s t : State) : Type 0 where
  pub side : side_of dir queue t ≡ side_with dir row word (side_of dir queue s)
  pub other : LeavesSide (across dir) queue s t
  pub ground : KeepsGround s t

-- While a side of a sound device is off, a value takes effect if it is written to one of the side's registers, by the
-- register's number at a port.
abbrev pub WordsAreTaken : Dir → Type 0
WordsAreTaken dir =
    (queue : ℕ) (s : State) (port : Port) (number word : ℕ) (row : RowId) → queue < 128 → IsSound s →
    IsFalse (side_of dir queue s).on → Fits dir row word → NamesRow s port number row queue →
    TakesWord dir queue row word s (after s (event.Write port number word))
