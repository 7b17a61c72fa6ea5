use Rattle.vf_map.proofs.Reached.{aligned}
use Rattle.vf_map.proofs.laws.addresses_are_aligned.Goals as goal

pub returns : goal.returns
returns c = aligned
