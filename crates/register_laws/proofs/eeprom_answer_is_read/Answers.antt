use Rattle.register_laws.proofs.Answered.{answer_is_read}
use Rattle.register_laws.proofs.eeprom_answer_is_read.Goals as goal

pub returns : goal.returns
returns c = answer_is_read
