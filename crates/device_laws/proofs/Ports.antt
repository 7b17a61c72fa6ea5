-- A virtual function reaches the same register that the physical function reaches at the mapped address.
use Rattle.std.proofs.Common.{◌≡◌, ℕ, Some, ap, sym, ◌∙◌}
use Rattle.nic_device.proofs.RegTable.FirstAddresses.{found_back}
use Rattle.nic_device.proofs.RegTable.FirstViews.{first_view}
use Rattle.nic_device.specs.VfMap.declared.mapped.Mapped.TheVariants as mapped_as
use Rattle.nic_device.proofs.VfMap.Reached.{mapped_from, located_hole, located_absent}
use Rattle.nic_device.specs.Interrupt.{mode_in}
use Rattle.device_laws.specs.Prelude.{Pf, State, Vf, at_location, at_place, located, mapped, named, named_read}
use Rattle.device_laws.specs.Prelude.{named_written, runs, step_of, view_among}
use Rattle.device_laws.specs.Ports.{AccessIsThePhysicalFunctions, HolesAndAbsentFunctionsMeetNothing}

-- The offset and its address refer to the same register, with all its bits.
same_register : (s : State) (v o a : ℕ) → mapped (mode_in s.registers) s.vfs v o ≡ mapped_as.Pf a
    → named s (Vf v) o ≡ named s Pf a
same_register s v o a is =
    let from = mapped_from (located (mode_in s.registers) s.vfs v o) a is in
    ap at_location from.1
    ∙ sym (ap (λ p. at_place p (view_among runs a)) (found_back from.0 a from.2)
    ∙ ap (λ view. at_place (Some from.0) view) (first_view from.0 a from.2))

pub access_is_the_physical_functions : AccessIsThePhysicalFunctions
unfolding step_of
access_is_the_physical_functions s v o a is = record {
  read = ap (named_read s) (same_register s v o a is);
  write = λ word. ap (λ m. named_written s m word) (same_register s v o a is);
}

pub holes_and_absent_functions : HolesAndAbsentFunctionsMeetNothing
unfolding step_of
holes_and_absent_functions s v o = record {
  hole = λ is.
      let here = ap at_location (located_hole (mode_in s.registers) s.vfs v o is) in
      record { read = ap (named_read s) here; write = λ word. ap (λ m. named_written s m word) here };
  absent = λ is.
      let here = ap at_location (located_absent (located (mode_in s.registers) s.vfs v o) is) in
      record { read = ap (named_read s) here; write = λ word. ap (λ m. named_written s m word) here };
}
