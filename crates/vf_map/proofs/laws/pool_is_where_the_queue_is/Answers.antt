use Rattle.vf_map.proofs.Inverse.{inverse}
use Rattle.vf_map.proofs.laws.pool_is_where_the_queue_is.Goals as goal

pub returns : goal.returns
returns c = inverse
