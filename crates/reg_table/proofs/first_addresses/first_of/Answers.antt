use Rattle.std.proofs.Common.{rules, refl, IsTrue}
use Rattle.reg_table.specs.declared.rows.RowId.{RowId}
use Rattle.reg_table.specs.declared.rows.RowId.TheVariants.{Ctrl}
use Rattle.reg_table.specs.FirstAddresses.{first_of, is_near}
use Rattle.reg_table.proofs.first_addresses.first_of.Goals as goal

near_first : (row : RowId) → IsTrue (is_near (first_of row))
near_first Ctrl = refl
near_first other = refl

pub returns-clause-value : goal.returns-clause-value
returns-clause-value c = search rules

pub returns-clause-near : goal.returns-clause-near
returns-clause-near c = rw (returns-clause-value c) (near_first c.args.row)
