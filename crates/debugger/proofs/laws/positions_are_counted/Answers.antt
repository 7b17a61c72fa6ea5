use Rattle.debugger.proofs.Positions.{positions_are_counted}
use Rattle.debugger.proofs.laws.positions_are_counted.Goals as goal

pub returns : goal.returns
returns c = positions_are_counted
