use Rattle.intr_unit.proofs.ReportedMarks.{reported_pending}
use Rattle.intr_unit.proofs.laws.reported_bits_are_pending.Goals as goal

pub returns : goal.returns
returns c = reported_pending
