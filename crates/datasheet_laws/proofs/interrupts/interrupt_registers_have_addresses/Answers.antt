use Rattle.datasheet_laws.proofs.Addresses.{addresses, low_views}
use Rattle.datasheet_laws.proofs.Words.{view_shown}
use Rattle.datasheet_laws.proofs.interrupts.interrupt_registers_have_addresses.Goals as goal

pub returns : goal.returns
returns c = record { whole = addresses; low = low_views; view = view_shown }
