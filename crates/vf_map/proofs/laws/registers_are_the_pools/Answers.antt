use Rattle.vf_map.proofs.Reached.{the_pools}
use Rattle.vf_map.proofs.laws.registers_are_the_pools.Goals as goal

pub returns : goal.returns
returns c = the_pools
