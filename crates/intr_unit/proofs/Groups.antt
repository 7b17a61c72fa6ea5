-- Lemmas about the bits of each group's registers, and about the bits that a read clears, written as words.
use Rattle.std.proofs.Common.{◌≡◌, ℕ, Bool, true, false, refl}
use Rattle.intr_unit.specs.declared.group.Group.TheVariants.{Pf, Vf}
use Rattle.intr_unit.specs.BitSet.{bits_below, bits_where, bits_from_to}
use Rattle.intr_unit.specs.Group.{group_bits, bits_cleared_by_read}

pub group_bits-Pf : group_bits Pf ≡ 0x7FFFFFFF
unfolding group_bits bits_from_to bits_where bits_below
group_bits-Pf = refl

pub group_bits-Vf : (v : ℕ) → group_bits (Vf v) ≡ 7
unfolding group_bits bits_from_to bits_where bits_below
group_bits-Vf v = refl

pub cleared-Pf : bits_cleared_by_read Pf false ≡ 0x7FFFFFFF
unfolding bits_cleared_by_read bits_from_to bits_where bits_below
cleared-Pf = refl

pub cleared-Pf_others : bits_cleared_by_read Pf true ≡ 0x3FFF0000
unfolding bits_cleared_by_read bits_from_to bits_where bits_below
cleared-Pf_others = refl

pub cleared-Vf : (v : ℕ) (ocd : Bool) → bits_cleared_by_read (Vf v) ocd ≡ 7
unfolding bits_cleared_by_read bits_from_to bits_where bits_below
cleared-Vf v ocd = refl

pub ruleset group_words = (group_bits-Pf, group_bits-Vf, cleared-Pf, cleared-Pf_others, cleared-Vf)
