-- Lists of accesses to one group, made by the driver and the device.
use Rattle.std.specs.Prelude.{ℕ, Bool, IsTrue, List, [], ◌∷◌}
use Rattle.intr_unit.specs.BitSet.{BitSet, contains}
use Rattle.intr_unit.specs.Interrupts.{Interrupts, reset_of, raised, after_read, after_write_one, after_mask_set}
use Rattle.intr_unit.specs.Interrupts.{after_mask_clear, with_auto_clear, with_auto_mask, after_message}

-- The calls that change a group, and a reset.
pub data Access : Type 0 where
  raise : BitSet → Bool → Access
  read : Bool → Bool → Access
  write_one : BitSet → Bool → Access
  mask_set : BitSet → Access
  mask_clear : BitSet → Access
  set_auto_clear : BitSet → Access
  set_auto_mask : BitSet → Access
  message : Bool → ℕ → Access
  reset : Access

-- The group after an access.
abbrev pub after : Interrupts → Access → Interrupts
after s (raise bits auto) = raised s bits auto
after s (read ocd auto) = after_read s ocd auto
after s (write_one bits auto) = after_write_one s bits auto
after s (mask_set bits) = after_mask_set s bits
after s (mask_clear bits) = after_mask_clear s bits
after s (set_auto_clear word) = with_auto_clear s word
after s (set_auto_mask word) = with_auto_mask s word
after s (message eiame misc) = after_message s eiame misc
after s reset = reset_of s.group

-- The group after a list of accesses, in order.
abbrev pub after_all : Interrupts → List Access → Interrupts
after_all s [] = s
after_all s (access ∷ rest) = after_all (after s access) rest

-- The bit's cause and mask are 1.
pub record IsPending (s : Interrupts) (bit : ℕ) : Type 0 where
  pub cause : IsTrue (contains s.causes bit)
  pub mask : IsTrue (contains s.enabled bit)

-- The bit's cause and mask are 1 before the accesses and after each access.
abbrev pub StaysPending : Interrupts → List Access → ℕ → Type 0
StaysPending s [] bit = IsPending s bit
StaysPending s (access ∷ rest) bit = IsPending s bit × StaysPending (after s access) rest bit
