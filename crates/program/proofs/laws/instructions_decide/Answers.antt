use Rattle.program.proofs.ReadBack.{laid_out-read}
use Rattle.program.proofs.laws.instructions_decide.Goals as goal

pub returns : goal.returns
returns c = λ all strings parts. laid_out-read all strings parts.few parts.few_strings parts.each parts.widths
