use Rattle.datasheet_laws.proofs.ByKind.{asked_sides}
use Rattle.datasheet_laws.proofs.sides_are_asked.Goals as goal

pub returns : goal.returns
returns c = asked_sides
