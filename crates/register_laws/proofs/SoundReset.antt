-- Registers are sound after a reset.
use Rattle.std.proofs.Common.{◌≡◌, ◌<◌, refl, sym, subst}
use Rattle.register_laws.specs.Prelude.{Group, IsSubset, Pf, Vf, index_of, reported_by, reset_registers}
use Rattle.register_laws.proofs.Prelude.{IsSubset-no_bits, get_or-replicate}
use Rattle.register_laws.specs.Sound.{AreSound, pending_bits}
use Rattle.register_laws.proofs.Holders.{mail-reset}
use Rattle.register_laws.proofs.Shape.{HasShape-reset}
use Rattle.register_laws.proofs.RowBits.{row_bits-reset}

-- After a reset, no bit is reported.
pub none_reported : (g : Group) → index_of g < 64 → reported_by reset_registers g ≡ 0
none_reported Pf b = refl
none_reported (Vf v) b = get_or-replicate 64 v 0 0 b

pub sound-reset : AreSound reset_registers
sound-reset = record {
  shape = HasShape-reset;
  words = row_bits-reset;
  reported =
      λ g b. subst (λ t. IsSubset t (pending_bits reset_registers g)) (sym (none_reported g b))
      (IsSubset-no_bits (pending_bits reset_registers g));
  mail = mail-reset;
}
