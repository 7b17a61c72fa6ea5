-- A group's interrupts, as a driver's reads show them.
use Rattle.std.specs.Prelude.{ℕ, ◌≡◌, ◌≢◌, ◌<◌, Bool, true, not}
use Rattle.datasheet_laws.specs.Prelude.{Block, Group, Pf, Reply, State, Vf, Word, has_bit, reply_to_read}
use Rattle.datasheet_laws.specs.Names.{IsGroup, bits_in, cause_address, mask_address, auto_clear_address, auto_mask_address}
use Rattle.datasheet_laws.specs.Names.{general_address}

-- The word in a reply, or 0 if it contains none.
abbrev pub word_in : Reply Block → ℕ
word_in (Word word) = word
word_in other = 0

-- The word that a read of an address returns, and whether a bit of it is 1.
abbrev pub read_at : State → ℕ → ℕ
read_at s address = word_in (reply_to_read s address)

abbrev pub reads_one : State → ℕ → ℕ → Bool
reads_one s address bit = has_bit bit (read_at s address)

-- One bit of a group: its cause, its mask, and whether the auto-clear and the auto-mask contain it.
pub record Bit : Type 0 where
  pub cause : Bool
  pub mask : Bool
  pub auto_clear : Bool
  pub auto_mask : Bool

-- A bit as reads of EICR, EIMS, EIAC and EIAM show it, or of PVTEICR, PVTEIMS, PVTEIAC and PVTEIAM.
abbrev pub bit_of : State → Group → ℕ → Bit
bit_of s g bit =
    record {
      cause = reads_one s (cause_address g) bit;
      mask = reads_one s (mask_address g) bit;
      auto_clear = reads_one s (auto_clear_address g) bit;
      auto_mask = reads_one s (auto_mask_address g) bit;
    }

-- Whether accesses change masks: accesses to the physical function's registers do while GPIE bit 30 is 0, and accesses
-- to a virtual function's always do.
abbrev pub masks_by_access : State → Group → Bool
masks_by_access s Pf = not (reads_one s general_address 30)
masks_by_access s (Vf v) = true

-- Afterwards, the bits of one group are these, and the bits of every other group are unchanged.
pub record ShowsThen (s new : State) (g : Group) (bits : ℕ → Bit) : Type 0 where
  pub own : (bit : ℕ) → bit < bits_in g → bit_of new g bit ≡ bits bit
  pub others :
      (other : Group) → IsGroup other → other ≢ g → (bit : ℕ) → bit < bits_in other
      → bit_of new other bit ≡ bit_of s other bit
