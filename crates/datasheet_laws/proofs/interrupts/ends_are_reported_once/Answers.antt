use Rattle.datasheet_laws.proofs.Resets.{end_reported_once, end_reported}
use Rattle.datasheet_laws.proofs.interrupts.ends_are_reported_once.Goals as goal

pub returns-clause-once : goal.returns-clause-once
returns-clause-once c = end_reported_once

pub returns-clause-reported : goal.returns-clause-reported
returns-clause-reported c = end_reported
