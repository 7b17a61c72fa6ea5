use Rattle.device_laws.proofs.PoolResets.{asked_pool_resets}
use Rattle.device_laws.proofs.asked_pool_reset_resets.Goals as goal

pub returns : goal.returns
returns c = asked_pool_resets
