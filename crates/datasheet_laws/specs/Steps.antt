-- What a message step for a group does, depending on what reads return before the step.
use Rattle.std.specs.Prelude.{ℕ, ◌≡◌, ◌≢◌, ◌<◌, ◌/◌, ◌%◌, ◌^◌, ◌==◌, Bool, not, ◌&&◌, nat_lt, nat_le, ⊤, IsTrue, IsFalse, Option, Some, None, if◌then◌else◌}
use Rattle.nic_device.specs.declared.event.Event.TheVariants as event
use Rattle.datasheet_laws.specs.Prelude.{Group, Idle, IsSound, Message, NoGroup, Pf, State, Vf, after, gives, has_bit}
use Rattle.datasheet_laws.specs.Prelude.{reply_to, reported_by, step_of}
use Rattle.datasheet_laws.specs.Names.{bits_in, general_address}
use Rattle.datasheet_laws.specs.Shown.{Bit, bit_of, read_at, reads_one, ShowsThen}

-- The addresses of CTRL, GCR_EXT and IVAR_MISC.
abbrev pub control_address : ℕ
control_address = 0x00000

abbrev pub mode_address : ℕ
mode_address = 0x11050

abbrev pub misc_address : ℕ
misc_address = 0x00A00

-- The number of pools: 16 while GCR_EXT bits 1 to 0 are 1, 32 while they are 2, 64 while they are 3, otherwise none.
abbrev pub pools_by : ℕ → ℕ
pools_by mode = if mode == 1 then 16 else (if mode == 2 then 32 else (if mode == 3 then 64 else 0))

abbrev pub pools_of : State → ℕ
pools_of s = pools_by (read_at s mode_address % 4)

-- Whether a group exists: a virtual function's group does if the device has the function, and a pool for it.
abbrev pub HasGroup : State → Group → Type 0
HasGroup s Pf = ⊤
HasGroup s (Vf v) = (v < s.vfs) × (v < pools_of s)

-- A vector that is valid and below 16.
abbrev pub valid_vector : Bool → ℕ → Option ℕ
valid_vector valid vector = if valid && nat_lt vector 16 then Some vector else None

-- The vector of a bit. Bits 0 to 15 of the physical function have their own number. Bits 16 to 29 have the number in
-- IVAR_MISC bits 13 to 8, if bit 15 marks it valid. Bit 30 has the number in bits 5 to 0, if bit 7 marks it valid. Bits
-- of a virtual function have their own number.
abbrev pub vector_by : (misc : ℕ) → Group → ℕ → Option ℕ
vector_by misc Pf bit =
    if nat_le bit 15 then Some bit
    else (if nat_le bit 29 then valid_vector (has_bit 15 misc) (misc / 2 ^ 8 % 64)
    else valid_vector (has_bit 7 misc) (misc % 64))
vector_by misc (Vf v) bit = Some bit

-- A bit is due: its cause and its mask read as 1, it isn't marked as reported, and it has a vector.
pub record IsDue (s : State) (g : Group) (bit vector : ℕ) : Type 0 where
  pub within : bit < bits_in g
  pub cause : IsTrue (bit_of s g bit).cause
  pub mask : IsTrue (bit_of s g bit).mask
  pub unreported : IsFalse (has_bit bit (reported_by s.registers g))
  pub routed : vector_by (read_at s misc_address) g bit ≡ Some vector

-- No bit is due (`NoneIsDue`), or no bit below a given bit is due (`NoneIsDueBelow`).
abbrev pub NoneIsDue : State → Group → Type 0
NoneIsDue s g = (bit vector : ℕ) → ¬ IsDue s g bit vector

abbrev pub NoneIsDueBelow : State → Group → ℕ → Type 0
NoneIsDueBelow s g bit = (lower vector : ℕ) → lower < bit → ¬ IsDue s g lower vector

-- A bit after it was reported: its cause is cleared if the auto-clear contains it, and its mask if GPIE bit 30 is 1 and
-- the auto-mask contains it.
abbrev pub reported_bit : State → Bit → Bit
reported_bit s b =
    record b {
      cause = b.cause && not b.auto_clear;
      mask = b.mask && not (reads_one s general_address 30 && b.auto_mask);
    }

-- The step sends the vector of a bit, and reports only this bit.
pub record Tells (s : State) (g : Group) (bit vector : ℕ) : Type 0 where
  pub reply : reply_to s (event.IntStep g) ≡ Message g vector
  pub shows :
      ShowsThen s (after s (event.IntStep g)) g
      (λ other. if other == bit then reported_bit s (bit_of s g other) else bit_of s g other)

-- If the group doesn't exist, the step gets the reply `NoGroup` and changes nothing. If the group exists, the step is
-- idle and changes nothing while CTRL bit 2 is 1 or if no bit is due; otherwise the step reports the lowest due bit.
pub record StepsByWhatIsDue (s : State) (g : Group) : Type 0 where
  pub absent : ¬ HasGroup s g → step_of s (event.IntStep g) ≡ gives NoGroup s
  pub there : HasGroup s g → reply_to s (event.IntStep g) ≢ NoGroup
  pub stopped : HasGroup s g → IsTrue (reads_one s control_address 2) → step_of s (event.IntStep g) ≡ gives Idle s
  pub quiet : HasGroup s g → NoneIsDue s g → step_of s (event.IntStep g) ≡ gives Idle s
  pub due :
      HasGroup s g → IsFalse (reads_one s control_address 2) → (bit vector : ℕ) → IsDue s g bit vector
      → NoneIsDueBelow s g bit → Tells s g bit vector

abbrev pub MessageStepsTellWhatIsDue : Type 0
MessageStepsTellWhatIsDue = (s : State) → IsSound s → (g : Group) → StepsByWhatIsDue s g
