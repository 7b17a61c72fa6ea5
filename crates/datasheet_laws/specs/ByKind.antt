-- What accesses do to a register's word, bit by bit, according to the register's listed kind and mask.
use Rattle.std.specs.Prelude.{ℕ, ◌≡◌, ◌<◌, ◌+◌, ◌*◌, ◌/◌, ◌%◌, Bool, true, false, ◌&&◌, Some, None, if◌then◌else◌}
use Rattle.reg_table.specs.declared.kind.Kind.TheVariants as kind
use Rattle.reg_table.specs.declared.rows.RowId.TheVariants.{Rxdctl, Tdbal, Tdbah, Tdlen, Tdh, Txdctl}
use Rattle.register_file.specs.Eeprom.{eeprom_asked, eeprom_answered}
use Rattle.datasheet_laws.specs.NumberPrelude.{HasShape, Kind, Registers, RowId, Rx, Surroundings, Tx, has_bit, is_wanted}
use Rattle.datasheet_laws.specs.ByAddress.{word, reads, read_at, write_at}
use Rattle.datasheet_laws.specs.Table.{line_of}

-- The first address of a register's index, as listed.
abbrev pub at : RowId → ℕ → ℕ
at row i = (line_of row).address i

-- A write stores the bits of a mask: these read as written, and all others as before.
abbrev pub Stores : Surroundings → Registers → (address mask w : ℕ) → Type 0
Stores around r address mask w =
    (bit : ℕ) → bit < 32 →
    reads around (write_at r address w) address bit
    ≡ (if has_bit bit mask then has_bit bit w else reads around r address bit)

-- A plain register stores the bits of its mask. So do CTRL, if no reset is requested, and an enable word, with a mask
-- that lacks bit 25.
pub record StoresItsMask (around : Surroundings) (r : Registers) (row : RowId) (i w : ℕ) : Type 0 where
  pub plain : (line_of row).kind ≡ kind.Rw → Stores around r (at row i) (line_of row).mask w
  pub control : (line_of row).kind ≡ kind.Ctrl → Stores around r (at row i) 0xFBFFFFF7 w
  pub enable : (line_of row).kind ≡ kind.Enable → Stores around r (at row i) 0xFDFFFFFF w

abbrev pub WordsAreStored : Type 0
WordsAreStored =
    (around : Surroundings) (r : Registers) → HasShape r → (row : RowId) (i w : ℕ) → i < (line_of row).count →
    StoresItsMask around r row i w

-- The enable word of the side that a ring's register belongs to: TXDCTL[q] for transmit, otherwise RXDCTL[q].
abbrev pub enable_of : RowId → ℕ → ℕ
enable_of Tdbal q = at Txdctl q
enable_of Tdbah q = at Txdctl q
enable_of Tdlen q = at Txdctl q
enable_of Tdh q = at Txdctl q
enable_of other q = at Rxdctl q

-- A ring's base, length and head are stored while bit 25 of that word reads 0. While it reads 1, a write changes
-- nothing.
pub record IsHeldWhileOn (around : Surroundings) (r : Registers) (row : RowId) (q w : ℕ) : Type 0 where
  pub off : reads around r (enable_of row q) 25 ≡ false → Stores around r (at row q) (line_of row).mask w
  pub on : reads around r (enable_of row q) 25 ≡ true → write_at r (at row q) w ≡ r

abbrev pub RingsAreHeld : Type 0
RingsAreHeld =
    (around : Surroundings) (r : Registers) → HasShape r → (row : RowId) (q w : ℕ) →
    (line_of row).kind ≡ kind.Held → q < (line_of row).count → IsHeldWhileOn around r row q w

-- The kinds whose reads change nothing: all except clear-on-read counters, causes, and a function's mailbox.
abbrev pub is_silent : Kind → Bool
is_silent kind.Rc = false
is_silent kind.Cause = false
is_silent kind.Vfmail = false
is_silent other = true

-- A clear-on-read counter reads 0 after a read. A write changes neither such a counter nor a read-only or calculated
-- register. A register that only sets causes or only clears masks reads 0, as does PVFCTRL. A write to PVFCTRL that
-- requests no reset changes nothing.
pub record ReadsByKind (around : Surroundings) (r : Registers) (row : RowId) (i w bit : ℕ) : Type 0 where
  pub silent : is_silent (line_of row).kind ≡ true → read_at r (at row i) ≡ r
  pub counter : (line_of row).kind ≡ kind.Rc → reads around (read_at r (at row i)) (at row i) bit ≡ false
  pub uncleared : (line_of row).kind ≡ kind.Rc → write_at r (at row i) w ≡ r
  pub fixed : (line_of row).kind ≡ kind.Ro → write_at r (at row i) w ≡ r
  pub calculated : (line_of row).kind ≡ kind.Calc → write_at r (at row i) w ≡ r
  pub setting : (line_of row).kind ≡ kind.Set → reads around r (at row i) bit ≡ false
  pub clearing : (line_of row).kind ≡ kind.Clear → reads around r (at row i) bit ≡ false
  pub resetting : (line_of row).kind ≡ kind.Vreset → reads around r (at row i) bit ≡ false
  pub idle : (line_of row).kind ≡ kind.Vreset → write_at r (at row i) w ≡ r

abbrev pub KindsAreRead : Type 0
KindsAreRead =
    (around : Surroundings) (r : Registers) → HasShape r → (row : RowId) (i w bit : ℕ) → i < (line_of row).count →
    bit < 32 → ReadsByKind around r row i w bit

-- RXDCTL[q] and TXDCTL[q]: bit 25 of what is written is the requested state of that side of the queue.
pub record AsksForASide (r : Registers) (q w : ℕ) : Type 0 where
  pub receive : is_wanted (write_at r (at Rxdctl q) w) Rx q ≡ has_bit 25 w
  pub transmit : is_wanted (write_at r (at Txdctl q) w) Tx q ≡ has_bit 25 w

abbrev pub SidesAreAsked : Type 0
SidesAreAsked = (r : Registers) → HasShape r → (q w : ℕ) → q < 128 → AsksForASide r q w

-- EERD, at 0x10014: a write stores bits 0 and 15 to 2, and clears all others. If bit 0, START, is 1, it requests the
-- word with the index in bits 15 to 2. The EEPROM's reply keeps bits 15 to 2, puts the word into bits 31 to 16, and
-- sets bit 1, DONE, instead of START.
pub record ReadsTheEeprom (around : Surroundings) (r : Registers) (w : ℕ) : Type 0 where
  pub stores : (bit : ℕ) → bit < 32 →
      reads around (write_at r 0x10014 w) 0x10014 bit ≡ (has_bit bit w && has_bit bit 0xFFFD)
  pub asked : reads around r 0x10014 0 ≡ true → eeprom_asked r ≡ Some (word r 0x10014 / 4 % 16384)
  pub unasked : reads around r 0x10014 0 ≡ false → eeprom_asked r ≡ None
  pub answered : word (eeprom_answered r w) 0x10014 ≡ word r 0x10014 / 4 % 16384 * 4 + 2 + w * 65536

abbrev pub EepromIsRead : Type 0
EepromIsRead = (around : Surroundings) (r : Registers) → HasShape r → (w : ℕ) → ReadsTheEeprom around r w
