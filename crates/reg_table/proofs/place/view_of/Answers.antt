use Rattle.reg_table.proofs.Views.{view_of_nothing, low_if, whole_if}
use Rattle.reg_table.proofs.place.view_of.Goals as goal

pub returns-in-Some-clause-low : goal.returns-in-Some-clause-low
returns-in-Some-clause-low c = low_if c.args.address _ c.in-Some.ensures.view

pub returns-in-Some-clause-whole : goal.returns-in-Some-clause-whole
returns-in-Some-clause-whole c = whole_if c.args.address _ c.in-Some.ensures.view

pub returns-in-None-clause-value : goal.returns-in-None-clause-value
returns-in-None-clause-value c = view_of_nothing c.args.address c.in-None.ensures.place

pub returns-in-None-clause-low : goal.returns-in-None-clause-low
returns-in-None-clause-low c = low_if c.args.address _ (view_of_nothing c.args.address c.in-None.ensures.place)

pub returns-in-None-clause-whole : goal.returns-in-None-clause-whole
returns-in-None-clause-whole c = whole_if c.args.address _ (view_of_nothing c.args.address c.in-None.ensures.place)
