use Rattle.std.proofs.Common.{inl, arith, refl}
use Rattle.pmd_access.proofs.packet.fresh_packet.Goals as goal

pub returns-then-from-clause-none : goal.returns-then-from-clause-none
returns-then-from-clause-none c = (λ _. inl (omega arith), λ _. refl)
