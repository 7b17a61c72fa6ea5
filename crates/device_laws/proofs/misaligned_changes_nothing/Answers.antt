use Rattle.device_laws.proofs.RepliesOut.{misaligned}
use Rattle.device_laws.proofs.misaligned_changes_nothing.Goals as goal

pub returns : goal.returns
returns c = misaligned
