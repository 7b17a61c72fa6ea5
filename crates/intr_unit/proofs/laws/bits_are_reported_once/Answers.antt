use Rattle.intr_unit.proofs.ReportedMarks.{reported_once}
use Rattle.intr_unit.proofs.laws.bits_are_reported_once.Goals as goal

pub returns : goal.returns
returns c = reported_once
