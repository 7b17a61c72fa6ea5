use Rattle.rx_filter.proofs.Queues.{queues_by_mode}
use Rattle.rx_filter.proofs.laws.queue_is_by_the_mode.Goals as goal

pub returns : goal.returns
returns c = queues_by_mode
