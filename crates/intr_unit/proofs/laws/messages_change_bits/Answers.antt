use Rattle.intr_unit.proofs.MessageLaws.{messages_change}
use Rattle.intr_unit.proofs.laws.messages_change_bits.Goals as goal

pub returns : goal.returns
returns c = messages_change
