-- What a group's message reports to a driver, and when the device sends a message.
use Rattle.std.specs.Prelude.{ℕ, ◌≡◌, ◌<◌, IsTrue, IsFalse}
use Rattle.nic_device.specs.IntrUnit.Interrupts.{is_due}
use Rattle.nic_device.specs.IntrUnit.Laws.{IsMessageOf, Leaves, reported_bits}
use Rattle.nic_device.specs.declared.event.Event.TheVariants as event
use Rattle.nic_device.specs.declared.event.Reply.TheVariants.{Message}
use Rattle.device_laws.specs.Prelude.{Group, IsSound, IvarMisc, Registers, State, after, has_group, interrupts_of}
use Rattle.device_laws.specs.Prelude.{is_stopped, masks_by_message, reply_to, word_of}

-- A group's bit is due: its cause and its mask are 1, it isn't reported, and it has a vector.
abbrev pub IsDueIn : Registers → Group → ℕ → Type 0
IsDueIn r g bit = IsTrue (is_due (interrupts_of r g) (word_of r IvarMisc 0) bit)

-- The step sends the vector of the lowest due bit and marks that bit as reported. The bit's cause is cleared if the bit
-- is 1 in auto-clear, and its mask if GPIE bit 30 is 1 and the bit is 1 in auto-mask. Every other bit is unchanged.
pub record SendsLowest (s : State) (g : Group) : Type 0 where
  pub vector : ℕ
  pub bit : ℕ
  pub reply : reply_to s (event.IntStep g) ≡ Message g vector
  pub lowest : IsMessageOf (interrupts_of s.registers g) (word_of s.registers IvarMisc 0) vector bit
  pub leaves :
      Leaves (interrupts_of s.registers g) (interrupts_of (after s (event.IntStep g)).registers g)
      (reported_bits (interrupts_of s.registers g) (masks_by_message s.registers) bit)

-- While bus mastering is enabled, an interrupt step for an existing group sends a message if one of the group's bits is
-- due.
abbrev pub DueBitIsReported : Type 0
DueBitIsReported =
    (s : State) → IsSound s → IsFalse (is_stopped s.registers) → (g : Group) → IsTrue (has_group s g) →
    (bit : ℕ) → bit < 32 → IsDueIn s.registers g bit → SendsLowest s g
