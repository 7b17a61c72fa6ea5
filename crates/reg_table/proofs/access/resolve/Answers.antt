use Rattle.reg_table.proofs.Views.{place_met, view_met, in_range_met}
use Rattle.reg_table.proofs.access.resolve.Goals as goal

pub returns-clause-place : goal.returns-clause-place
returns-clause-place c = place_met _ c.args.address c.at.ensures

pub returns-clause-view : goal.returns-clause-view
returns-clause-view c = view_met _ c.args.address c.at.ensures

pub returns-clause-in_range : goal.returns-clause-in_range
returns-clause-in_range c = in_range_met _ c.args.address c.at.ensures
