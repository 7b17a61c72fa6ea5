-- Lemmas about the bits that have a vector, written as sets.
use Rattle.std.proofs.Common.{◌≡◌, ℕ, refl}
use Rattle.std.specs.Prelude.{Option, Some, None, is_some, nat_le, ◌==◌, if◌then◌else◌}
use Rattle.intr_unit.specs.declared.group.Group.TheVariants.{Pf, Vf}
use Rattle.intr_unit.specs.BitSet.{contains, bits_below, bits_where, union, when, only}
use Rattle.intr_unit.specs.Group.{vector_of, other_vector, timer_vector, routed_bits}

-- The routed bits are the same for any vector of the other causes and any vector of the TCP timer.
by_vectors : (other timer : Option ℕ) →
    union (union 0xFFFF (when (is_some other) 0x3FFF0000)) (when (is_some timer) (only 30))
    ≡ bits_where (λ bit. is_some (
    if nat_le bit 15 then Some bit
    else (if nat_le bit 29 then other else (if bit == 30 then timer else None))
    ))
unfolding union when only bits_where bits_below contains
by_vectors None None = refl
by_vectors None (Some t) = refl
by_vectors (Some o) None = refl
by_vectors (Some o) (Some t) = refl

pub routed-Pf : (misc : ℕ) →
    union (union 0xFFFF (when (is_some (other_vector misc)) 0x3FFF0000))
    (when (is_some (timer_vector misc)) (only 30))
    ≡ routed_bits Pf misc
unfolding routed_bits vector_of
routed-Pf misc = by_vectors (other_vector misc) (timer_vector misc)

pub routed-Vf : (v misc : ℕ) → 7 ≡ routed_bits (Vf v) misc
unfolding routed_bits vector_of bits_where bits_below
routed-Vf v misc = refl

pub ruleset routed = (routed-Pf, routed-Vf)
