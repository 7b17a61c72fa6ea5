use Rattle.intr_unit.proofs.BitLaws.{raises_change}
use Rattle.intr_unit.proofs.laws.raises_change_bits.Goals as goal

pub returns : goal.returns
returns c = raises_change
