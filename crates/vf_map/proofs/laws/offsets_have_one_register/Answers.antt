use Rattle.vf_map.proofs.Inverse.{listed_once}
use Rattle.vf_map.proofs.laws.offsets_have_one_register.Goals as goal

pub returns : goal.returns
returns c = listed_once
