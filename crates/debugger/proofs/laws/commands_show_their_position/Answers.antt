use Rattle.debugger.proofs.Positions.{commands_show_their_position}
use Rattle.debugger.proofs.laws.commands_show_their_position.Goals as goal

pub returns : goal.returns
returns c = commands_show_their_position
