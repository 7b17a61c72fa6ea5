use Rattle.debugger.proofs.Ends.{runs_end_first}
use Rattle.debugger.proofs.laws.runs_end_first.Goals as goal

pub returns : goal.returns
returns c = runs_end_first
