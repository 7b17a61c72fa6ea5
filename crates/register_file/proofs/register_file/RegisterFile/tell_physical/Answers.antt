use Rattle.register_file.proofs.Raising.{mail_cause}
use Rattle.register_file.proofs.register_file.RegisterFile.tell_physical.Goals as goal

pub set_cause-requires-clause-bits : goal.set_cause-requires-clause-bits
set_cause-requires-clause-bits c = mail_cause
