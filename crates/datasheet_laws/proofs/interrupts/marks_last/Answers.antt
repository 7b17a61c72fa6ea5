use Rattle.datasheet_laws.proofs.MarksKept.{marks_last}
use Rattle.datasheet_laws.proofs.MarksMade.{messages_mark}
use Rattle.datasheet_laws.proofs.interrupts.marks_last.Goals as goal

pub returns : goal.returns
returns c = record { last = marks_last; made = messages_mark }
