use Rattle.datasheet_laws.proofs.Offsets.{offsets}
use Rattle.datasheet_laws.proofs.offsets_are_listed.Goals as goal

pub returns : goal.returns
returns c = offsets
