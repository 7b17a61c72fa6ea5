use Rattle.machine.proofs.Jumps.{jumps_go}
use Rattle.machine.proofs.laws.jumps_go_where_they_say.Goals as goal

pub returns : goal.returns
returns c = jumps_go
