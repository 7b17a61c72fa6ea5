use Rattle.intr_unit.proofs.BitLaws.{writes_of_ones_change}
use Rattle.intr_unit.proofs.laws.writes_of_ones_change_bits.Goals as goal

pub returns : goal.returns
returns c = writes_of_ones_change
