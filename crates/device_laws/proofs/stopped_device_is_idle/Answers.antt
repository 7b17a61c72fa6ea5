use Rattle.device_laws.proofs.Delivered.{stopped_idle}
use Rattle.device_laws.proofs.stopped_device_is_idle.Goals as goal

pub returns : goal.returns
returns c = stopped_idle
