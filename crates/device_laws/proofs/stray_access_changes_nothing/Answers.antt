use Rattle.device_laws.proofs.Accesses.{stray_changes_nothing}
use Rattle.device_laws.proofs.stray_access_changes_nothing.Goals as goal

pub returns : goal.returns
returns c = stray_changes_nothing
