use Rattle.datasheet_laws.proofs.SharedMailbox.{mailboxes_shared}
use Rattle.datasheet_laws.proofs.interrupts.mailboxes_are_shared.Goals as goal

pub returns : goal.returns
returns c = mailboxes_shared
