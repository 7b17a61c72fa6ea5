use Rattle.datasheet_laws.proofs.WrittenBack.{written_back_so}
use Rattle.datasheet_laws.proofs.frames.descriptors_are_written_back.Goals as goal

pub returns : goal.returns
returns c = written_back_so
