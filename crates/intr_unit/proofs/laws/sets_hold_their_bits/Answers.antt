use Rattle.intr_unit.proofs.SetLaws.{sets_hold}
use Rattle.intr_unit.proofs.laws.sets_hold_their_bits.Goals as goal

pub returns : goal.returns
returns c = sets_hold
