use Rattle.intr_unit.proofs.BitLaws.{reads_change}
use Rattle.intr_unit.proofs.laws.reads_change_bits.Goals as goal

pub returns : goal.returns
returns c = reads_change
