use Rattle.reg_table.proofs.Naming.{name_has_one_row}
use Rattle.reg_table.proofs.laws.name_has_one_row.Goals as goal

pub returns : goal.returns
returns c = name_has_one_row
