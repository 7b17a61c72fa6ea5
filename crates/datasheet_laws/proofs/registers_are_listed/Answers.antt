use Rattle.datasheet_laws.proofs.Table.{listed, aliases, low_views}
use Rattle.datasheet_laws.proofs.registers_are_listed.Goals as goal

pub returns : goal.returns
returns c = record { lines = listed; aliases = aliases; low = low_views }
