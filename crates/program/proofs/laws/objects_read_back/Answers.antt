use Rattle.program.proofs.ReadBack.{object-read}
use Rattle.program.proofs.laws.objects_read_back.Goals as goal

pub returns : goal.returns
returns c = λ program is widths. object-read program is widths
