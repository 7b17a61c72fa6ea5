use Rattle.debugger.proofs.Positions.{back_and_on_again}
use Rattle.debugger.proofs.laws.back_and_on_again.Goals as goal

pub returns : goal.returns
returns c = back_and_on_again
