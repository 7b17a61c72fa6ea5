-- The handshake of the mailboxes, in terms of the addresses and bits that drivers of both sides use.
use Rattle.std.specs.Prelude.{ℕ, ◌≡◌, ◌<◌, ◌+◌, ◌*◌, ◌/◌, ◌%◌, ◌==◌, ◌⊎◌, Bool, not, true, false, ◌&&◌, ◌||◌, nat_le}
use Rattle.datasheet_laws.specs.NumberPrelude.{HasShape, Mode, Registers, Surroundings, has_bit, pool_reset}
use Rattle.datasheet_laws.specs.ByAddress.{word, reads, read_at, write_at}

-- PVFMAILBOX[v], which belongs to function v, and PFMAILBOX[v], which belongs to the physical function.
abbrev pub own : ℕ → ℕ
own v = 0x04C00 + 4 * v

abbrev pub other : ℕ → ℕ
other v = 0x04B00 + 4 * v

-- The function writes. With bit 2 set, it takes the mailbox if bit 3 reads 0, and waits if bit 3 reads 1. With bit 2
-- clear, it releases the mailbox. The value that bit 3 reads stays unchanged.
pub record FunctionShakes (around : Surroundings) (r : Registers) (v w : ℕ) : Type 0 where
  pub takes : has_bit 2 w ≡ true → reads around r (own v) 3 ≡ false →
      reads around (write_at r (own v) w) (own v) 2 ≡ true
  pub waits : has_bit 2 w ≡ true → reads around r (own v) 3 ≡ true →
      reads around (write_at r (own v) w) (own v) 2 ≡ reads around r (own v) 2
  pub gives_up : has_bit 2 w ≡ false → reads around (write_at r (own v) w) (own v) 2 ≡ false
  pub leaves : reads around (write_at r (own v) w) (own v) 3 ≡ reads around r (own v) 3

-- The physical function writes. With bit 4 set, it takes the mailbox from the function; with bit 4 clear, the value
-- that bit 2 reads stays unchanged. With bit 3 set, it takes the mailbox if the function doesn't hold it, or no longer
-- does, and otherwise waits. With bit 3 clear, it releases the mailbox.
pub record PhysicalShakes (around : Surroundings) (r : Registers) (v w : ℕ) : Type 0 where
  pub frees : has_bit 4 w ≡ true → reads around (write_at r (other v) w) (own v) 2 ≡ false
  pub leaves : has_bit 4 w ≡ false →
      reads around (write_at r (other v) w) (own v) 2 ≡ reads around r (own v) 2
  pub takes : has_bit 3 w ≡ true → (has_bit 4 w ≡ true) ⊎ (reads around r (own v) 2 ≡ false) →
      reads around (write_at r (other v) w) (own v) 3 ≡ true
  pub waits : has_bit 3 w ≡ true → has_bit 4 w ≡ false → reads around r (own v) 2 ≡ true →
      reads around (write_at r (other v) w) (own v) 3 ≡ reads around r (own v) 3
  pub gives_up : has_bit 3 w ≡ false → reads around (write_at r (other v) w) (own v) 3 ≡ false

-- Both sides read the same holder of the mailbox, and all other bits that the physical function reads are 0.
pub record ReadAlike (around : Surroundings) (r : Registers) (v : ℕ) : Type 0 where
  pub function : reads around r (other v) 2 ≡ reads around r (own v) 2
  pub physical : reads around r (other v) 3 ≡ reads around r (own v) 3
  pub no_more : (bit : ℕ) → bit < 32 → (bit == 2 || bit == 3) ≡ false → reads around r (other v) bit ≡ false

-- The function reads the physical function's bit 0, a status, as bit 4, and bit 1, an acknowledgement, as bit 5, until
-- one read. That read also returns once that a reset is done, in bit 7, and leaves all other bits unchanged.
pub record IsReportedOnce (around : Surroundings) (r : Registers) (v w : ℕ) : Type 0 where
  pub status : reads around (write_at r (other v) w) (own v) 4 ≡ (has_bit 0 w || reads around r (own v) 4)
  pub acknowledged : reads around (write_at r (other v) w) (own v) 5 ≡ (has_bit 1 w || reads around r (own v) 5)
  pub read : (bit : ℕ) → bit < 32 →
      reads around (read_at r (own v)) (own v) bit
      ≡ (reads around r (own v) bit && not (bit == 4 || bit == 5 || bit == 7))

pub record Shakes (around : Surroundings) (r : Registers) (v w : ℕ) : Type 0 where
  pub function : FunctionShakes around r v w
  pub physical : PhysicalShakes around r v w
  pub alike : ReadAlike around r v
  pub once : IsReportedOnce around r v w

abbrev pub MailboxesShake : Type 0
MailboxesShake =
    (around : Surroundings) (r : Registers) → HasShape r → (v w : ℕ) → v < 64 → Shakes around r v w

-- A bit written as 1 to PFMBICR[k] is cleared. No other bit of this register is cleared, nor any bit of another
-- PFMBICR.
abbrev pub OnesAreCleared : Type 0
OnesAreCleared =
    (around : Surroundings) (r : Registers) → HasShape r → (k j w bit : ℕ) → k < 4 → j < 4 → bit < 32 →
    reads around (write_at r (0x00710 + 4 * k) w) (0x00710 + 4 * j) bit
    ≡ (reads around r (0x00710 + 4 * j) bit && not (j == k && has_bit bit w))

-- Whether a written word sends a request or an acknowledgement.
abbrev pub sends : ℕ → Bool
sends w = has_bit 0 w || has_bit 1 w

-- A function that sends raises bit 19 of EICR, if bit v mod 32 of PFMBIMR[v / 32] is 1, and no other cause of EICR.
abbrev pub FunctionsRaise : Type 0
FunctionsRaise =
    (around : Surroundings) (r : Registers) → HasShape r → (v w bit : ℕ) → v < 64 → bit < 32 →
    reads around (write_at r (own v) w) 0x00800 bit
    ≡ (reads around r 0x00800 bit
    || (sends w && reads around r (0x00720 + 4 * (v / 32)) (v % 32) && bit == 19))

-- The bit of PVTEICR[v], at most 2, that PVTIVAR_MISC[v] names in bits 5 to 0, if its bit 7 is 1.
abbrev pub names : (vector bit : ℕ) → Bool
names vector bit = has_bit 7 vector && bit == vector % 64 && nat_le bit 2

-- When the physical function sends, it raises in PVTEICR[v] the cause that PVTIVAR_MISC[v] names, and no other.
abbrev pub PhysicalRaises : Type 0
PhysicalRaises =
    (around : Surroundings) (r : Registers) → HasShape r → (v w bit : ℕ) → v < 64 → bit < 32 →
    reads around (write_at r (other v) w) (0x00B00 + 4 * v) bit
    ≡ (reads around r (0x00B00 + 4 * v) bit || (sends w && names (word r (0x04E00 + 4 * v)) bit))

-- The reset of function v's pool clears the function's hold on its mailbox, bit 2, and what was sent to it, bits 4 and
-- 5, and leaves all other bits unchanged.
abbrev pub PoolResetsLeave : Type 0
PoolResetsLeave =
    (around : Surroundings) (r : Registers) → HasShape r → (mode : Mode) (v bit : ℕ) → v < 64 → bit < 32 →
    reads around (pool_reset mode v r) (own v) bit
    ≡ (reads around r (own v) bit && not (bit == 2 || bit == 4 || bit == 5))

-- A write to function v's mailbox changes only bit 2 of PVFMAILBOX[v]; a write by the physical function changes only
-- bits 5 to 2 of it. All other bits of the register, and all of each other function's mailbox, read as before.
pub record LeavesOtherBits (around : Surroundings) (r : Registers) (v u w bit : ℕ) : Type 0 where
  pub function : (v == u && bit == 2) ≡ false →
      reads around (write_at r (own v) w) (own u) bit ≡ reads around r (own u) bit
  pub physical : (v == u && (bit == 2 || bit == 3 || bit == 4 || bit == 5)) ≡ false →
      reads around (write_at r (other v) w) (own u) bit ≡ reads around r (own u) bit
  pub read : (v == u) ≡ false → reads around (read_at r (own v)) (own u) bit ≡ reads around r (own u) bit

abbrev pub OtherBitsStay : Type 0
OtherBitsStay =
    (around : Surroundings) (r : Registers) → HasShape r → (v u w bit : ℕ) → v < 64 → u < 64 → bit < 32 →
    LeavesOtherBits around r v u w bit
