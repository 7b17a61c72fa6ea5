use Rattle.datasheet_laws.proofs.Extended.{begins_at_zero, keeps_what_is_written}
use Rattle.datasheet_laws.proofs.interrupts.ctrl_ext_keeps_what_is_written.Goals as goal

pub returns : goal.returns
returns c = record { begins = begins_at_zero; keeps = keeps_what_is_written }
