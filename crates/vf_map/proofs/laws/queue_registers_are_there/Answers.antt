use Rattle.vf_map.proofs.Queues.{queue_registers}
use Rattle.vf_map.proofs.laws.queue_registers_are_there.Goals as goal

pub returns : goal.returns
returns c = queue_registers
