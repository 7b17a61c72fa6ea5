use Rattle.intr_unit.proofs.BitLaws.{mask_sets_change, mask_clears_change}
use Rattle.intr_unit.proofs.laws.mask_writes_change_bits.Goals as goal

pub returns-clause-set : goal.returns-clause-set
returns-clause-set c = mask_sets_change

pub returns-clause-clear : goal.returns-clause-clear
returns-clause-clear c = mask_clears_change
