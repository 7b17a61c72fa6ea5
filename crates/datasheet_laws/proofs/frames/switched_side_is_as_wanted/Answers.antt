use Rattle.datasheet_laws.proofs.Switched.{as_wanted}
use Rattle.datasheet_laws.proofs.frames.switched_side_is_as_wanted.Goals as goal

pub returns : goal.returns
returns c = as_wanted
