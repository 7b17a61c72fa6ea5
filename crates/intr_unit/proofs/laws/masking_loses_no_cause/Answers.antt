use Rattle.intr_unit.proofs.MaskLaws.{masking_keeps}
use Rattle.intr_unit.proofs.laws.masking_loses_no_cause.Goals as goal

pub returns : goal.returns
returns c = masking_keeps
