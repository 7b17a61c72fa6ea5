use Rattle.vf_map.proofs.Reached.{apart}
use Rattle.vf_map.proofs.laws.functions_are_apart.Goals as goal

pub returns : goal.returns
returns c = apart
