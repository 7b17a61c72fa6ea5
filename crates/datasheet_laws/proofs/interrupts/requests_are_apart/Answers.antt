use Rattle.datasheet_laws.proofs.Sending.{requests_apart}
use Rattle.datasheet_laws.proofs.interrupts.requests_are_apart.Goals as goal

pub returns : goal.returns
returns c = requests_apart
