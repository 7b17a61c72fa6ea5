use Rattle.datasheet_laws.proofs.Messages.{messages_numbered, messages_shared, messages_last}
use Rattle.datasheet_laws.proofs.interrupts.messages_are_shared.Goals as goal

pub returns-clause-numbers : goal.returns-clause-numbers
returns-clause-numbers c = messages_numbered

pub returns-clause-shared : goal.returns-clause-shared
returns-clause-shared c = messages_shared

pub returns-clause-last : goal.returns-clause-last
returns-clause-last c = messages_last
