-- Registers that only keep what is written.
use Rattle.std.specs.Prelude.{ℕ, ◌≡◌, ◌≢◌, ◌<◌, ◌+◌, ◌-◌, ◌*◌, nat_lt, if◌then◌else◌}
use Rattle.nic_device.specs.RegTable.declared.rows.RowId.TheVariants.{Eitr}
use Rattle.nic_device.specs.declared.event.Event.TheVariants as event
use Rattle.datasheet_laws.specs.Prelude.{Group, IsPlain, IsSound, Names, Place, State, after_write, has_bit, place}
use Rattle.datasheet_laws.specs.Prelude.{reply_to, reply_to_read}
use Rattle.datasheet_laws.specs.Names.{IsGroup, auto_clear_register, auto_clear_address, auto_mask_register}
use Rattle.datasheet_laws.specs.Names.{auto_mask_address}
use Rattle.datasheet_laws.specs.Shown.{reads_one}

-- A read of every other register, of any kind, returns what it returned before, and nothing in the device has changed
-- except words of registers.
pub record ChangesOneRegister (p : Place) (old new : State) : Type 0 where
  pub reads :
      (address : ℕ) (q : Place) → Names address q → q ≢ p → reply_to_read new address ≡ reply_to_read old address
  pub rest : new ≡ record old { registers = record old.registers { words = new.registers.words } }

-- A write to a plain read/write register doesn't change what other registers read, and changes nothing in the device
-- except words of registers.
abbrev pub PlainWriteIsAlone : Type 0
PlainWriteIsAlone =
    (s : State) (address word : ℕ) (p : Place) → IsPlain address p →
    ChangesOneRegister p s (after_write s address word)

-- The address of EITR[i].
abbrev pub timer_address : ℕ → ℕ
timer_address i = if nat_lt i 24 then 0x00820 + 4 * i else 0x12300 + 4 * (i - 24)

-- EIAC and EIAM, PVTEIAC and PVTEIAM, and EITR are plain.
pub record ArePlain : Type 0 where
  pub auto_clear : (g : Group) → IsGroup g → IsPlain (auto_clear_address g) (auto_clear_register g)
  pub auto_mask : (g : Group) → IsGroup g → IsPlain (auto_mask_address g) (auto_mask_register g)
  pub timer : (i : ℕ) → i < 128 → IsPlain (timer_address i) (place Eitr i)

-- EITR keeps all written bits, and no reply to a message step depends on it.
pub record IsWithoutEffect (s : State) (i word : ℕ) : Type 0 where
  pub kept :
      (bit : ℕ) → bit < 32 → reads_one (after_write s (timer_address i) word) (timer_address i) bit ≡ has_bit bit word
  pub messages :
      (g : Group) → reply_to (after_write s (timer_address i) word) (event.IntStep g)
      ≡ reply_to s (event.IntStep g)

abbrev pub TimersHaveNoEffect : Type 0
TimersHaveNoEffect = (s : State) → IsSound s → (i word : ℕ) → i < 128 → IsWithoutEffect s i word
