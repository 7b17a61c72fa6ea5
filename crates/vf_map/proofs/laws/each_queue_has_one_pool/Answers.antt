use Rattle.vf_map.proofs.Queues.{each_queue}
use Rattle.vf_map.proofs.laws.each_queue_has_one_pool.Goals as goal

pub returns : goal.returns
returns c = each_queue
