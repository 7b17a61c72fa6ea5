use Rattle.std.proofs.Common.{◌∙◌}
use Rattle.reg_table.specs.Entry.{row_in}
use Rattle.reg_table.specs.Rows.{row_of}
use Rattle.reg_table.proofs.InOrder.{number_in, in_order}
use Rattle.reg_table.proofs.rows.entry_of.Goals as goal

pub bounds-entries-from : goal.bounds-entries-from
bounds-entries-from c = rw (c.from.ensures ∙ c.number.ensures) (number_in row_in row_of _ c.entries.ensures c.args.row)

pub returns : goal.returns
returns c = rw (c.from.ensures ∙ c.number.ensures) (in_order row_in row_of _ _ c.entries.ensures c.args.row)
