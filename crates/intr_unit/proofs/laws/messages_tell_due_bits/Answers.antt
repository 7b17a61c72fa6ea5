use Rattle.intr_unit.proofs.MessageLaws.{messages_tell}
use Rattle.intr_unit.proofs.laws.messages_tell_due_bits.Goals as goal

pub returns : goal.returns
returns c = messages_tell
