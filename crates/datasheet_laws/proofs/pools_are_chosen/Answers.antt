use Rattle.datasheet_laws.proofs.Filter.{pools_chosen}
use Rattle.datasheet_laws.proofs.pools_are_chosen.Goals as goal

pub returns : goal.returns
returns c = pools_chosen
