-- What accesses by virtual functions do, compared with accesses by the physical function.
use Rattle.std.specs.Prelude.{ℕ, ◌≡◌}
use Rattle.nic_device.specs.VfMap.declared.mapped.Mapped.TheVariants as mapped_as
use Rattle.nic_device.specs.Interrupt.{mode_in}
use Rattle.nic_device.specs.declared.event.Event.TheVariants as event
use Rattle.device_laws.specs.Prelude.{Pf, State, Stray, Vf, gives, mapped, step_of}

-- An access by virtual function v and an access by the physical function get the same reply and leave the same state,
-- for reads and for writes.
pub record AreOneAccess (s : State) (v offset address : ℕ) : Type 0 where
  pub read : step_of s (event.Read (Vf v) offset) ≡ step_of s (event.Read Pf address)
  pub write : (word : ℕ) → step_of s (event.Write (Vf v) offset word) ≡ step_of s (event.Write Pf address word)

-- A virtual function's access is the physical function's access at the address that its offset maps to.
abbrev pub AccessIsThePhysicalFunctions : Type 0
AccessIsThePhysicalFunctions =
    (s : State) (v offset address : ℕ) → mapped (mode_in s.registers) s.vfs v offset ≡ mapped_as.Pf address →
    AreOneAccess s v offset address

-- An access reaches no register: a read gets the reply `Stray` with a fixed value, a write gets `Stray`, and nothing
-- changes.
pub record MeetsNothing (s : State) (v offset seen : ℕ) : Type 0 where
  pub read : step_of s (event.Read (Vf v) offset) ≡ gives (Stray seen) s
  pub write : (word : ℕ) → step_of s (event.Write (Vf v) offset word) ≡ gives (Stray 0) s

-- A hole reads as 0. A function that doesn't exist or has no pool reads as all ones.
pub record HolesAndAbsentFunctions (s : State) (v offset : ℕ) : Type 0 where
  pub hole : mapped (mode_in s.registers) s.vfs v offset ≡ mapped_as.Hole → MeetsNothing s v offset 0
  pub absent : mapped (mode_in s.registers) s.vfs v offset ≡ mapped_as.Absent → MeetsNothing s v offset 0xFFFFFFFF

abbrev pub HolesAndAbsentFunctionsMeetNothing : Type 0
HolesAndAbsentFunctionsMeetNothing = (s : State) (v offset : ℕ) → HolesAndAbsentFunctions s v offset
