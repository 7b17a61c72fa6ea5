use Rattle.register_laws.proofs.Prelude.{word_at-reset}
use Rattle.register_laws.proofs.ReadBack.{off-reset}
use Rattle.register_laws.proofs.SoundReset.{none_reported}
use Rattle.register_laws.proofs.reset_is_the_tables.Goals as goal

pub returns-clause-words : goal.returns-clause-words
returns-clause-words c = word_at-reset

pub returns-clause-off : goal.returns-clause-off
returns-clause-off c = off-reset

pub returns-clause-reported : goal.returns-clause-reported
returns-clause-reported c = none_reported
