use Rattle.datasheet_laws.proofs.Mailbox.{shake}
use Rattle.datasheet_laws.proofs.mailboxes_shake.Goals as goal

pub returns : goal.returns
returns c = shake
