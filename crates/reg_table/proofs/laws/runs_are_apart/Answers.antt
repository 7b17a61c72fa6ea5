use Rattle.reg_table.proofs.Apart.{table_pairs_apart}
use Rattle.reg_table.proofs.laws.runs_are_apart.Goals as goal

pub returns : goal.returns
returns c = table_pairs_apart
