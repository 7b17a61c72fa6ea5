use Rattle.vf_map.proofs.Reached.{reads_back}
use Rattle.vf_map.proofs.laws.addresses_read_back.Goals as goal

pub returns : goal.returns
returns c = reads_back
