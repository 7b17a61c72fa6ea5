use Rattle.datasheet_laws.proofs.Muting.{mutes}
use Rattle.datasheet_laws.proofs.interrupts.vfte_mutes_pools.Goals as goal

pub returns : goal.returns
returns c = mutes
