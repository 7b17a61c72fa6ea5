use Rattle.intr_unit.proofs.BitLaws.{auto_writes_change}
use Rattle.intr_unit.proofs.laws.auto_writes_change_bits.Goals as goal

pub returns : goal.returns
returns c = auto_writes_change
