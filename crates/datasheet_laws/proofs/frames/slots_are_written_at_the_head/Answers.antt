use Rattle.datasheet_laws.proofs.AtHead.{written_at_head}
use Rattle.datasheet_laws.proofs.frames.slots_are_written_at_the_head.Goals as goal

pub returns : goal.returns
returns c = written_at_head
