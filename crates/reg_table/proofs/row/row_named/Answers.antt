use Rattle.std.proofs.Common.{sym, ◌∙◌}
use Rattle.reg_table.specs.Rows.{rows}
use Rattle.reg_table.proofs.Naming.{found_has_name, found_by_name}
use Rattle.reg_table.proofs.row.row_named.Goals as goal

pub returns-clause-exact : goal.returns-clause-exact
returns-clause-exact c = λ row. (
  λ e. found_has_name c.args.name.now rows row (sym c.first_named.ensures ∙ e),
  λ n. c.first_named.ensures ∙ found_by_name row c.args.name.now n,
)
